-- What a code answers, the law of codes, and balance.
use Rattle.std.specs.Prelude.{ℕ, ◌*◌, ◌^◌, ◌<◌, cond, ◌&&◌, List, length, Ok, Err, sum, Result, slice_index}
use Rattle.codes.specs.declared.word.Word.{Word}
use Rattle.codes.specs.declared.code.CodeRefusal.{CodeRefusal}
use Rattle.codes.specs.declared.code.CodeRefusal.TheVariants.{NotAccepted}
use Rattle.codes.specs.Words.{bits, Fit, Before}
use Rattle.codes.specs.Weighing.{Weights, accepts}

-- the number under which a refusal is told
abbrev pub refusal_number : CodeRefusal → ℕ
refusal_number NotAccepted = 24

-- what a code with the words f answers to a list and an index: the word where they are accepted, and else the refusal
abbrev pub answer : (List ℕ → ℕ → Word) → List ℕ → ℕ → Result Word CodeRefusal
answer f ws i = cond (accepts ws i) (Ok (f ws i)) (Err NotAccepted)

-- the same for two indexes of one list
abbrev pub pair_answer : (List ℕ → ℕ → Word) → List ℕ → ℕ → ℕ → Result (Word × Word) CodeRefusal
pair_answer f ws i j = cond (accepts ws i && accepts ws j) (Ok (f ws i, f ws j)) (Err NotAccepted)

-- the law of codes: each word has 1 to 32 bits and its value fits, and the word of an earlier item stands before that of a later one
pub record Lawful (f : List ℕ → ℕ → Word) : Type 0 where
  pub fit : (ws : List ℕ) (i : ℕ) → Weights ws → i < length ws → Fit (f ws i)
  pub ordered : (ws : List ℕ) (i j : ℕ) → Weights ws → i < j → j < length ws → Before (bits (f ws i)) (bits (f ws j))

-- balance: a word of l bits, of a weight w in a sum W, has 2 ^ l * w < 4 * W
abbrev pub Balanced : (List ℕ → ℕ → Word) → Type 0
Balanced f = (ws : List ℕ) (i : ℕ) → Weights ws → i < length ws → 2 ^ (f ws i).len * slice_index ws i < 4 * sum ws
