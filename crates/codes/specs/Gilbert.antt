-- The words of the code of Gilbert and Moore.
use Rattle.std.specs.Prelude.{ℕ, zero, suc, ◌+◌, ◌*◌, ◌/◌, ◌^◌, cond, List, take, sum, nat_le, slice_index}
use Rattle.codes.specs.declared.word.Word.{Word}

-- how often w is doubled until it is at least W; the first number bounds how often
abbrev pub doublings : ℕ → ℕ → ℕ → ℕ
doublings zero w W = 0
doublings (suc f) w W = cond (nat_le W w) 0 (suc (doublings f (w * 2) W))

-- the smallest c with W ≤ w * 2 ^ c, for w ≥ 1: W doublings are enough
abbrev pub shift : ℕ → ℕ → ℕ
shift w W = doublings W w W

-- c + 1 bits: m * 2 ^ c / W, rounded down
abbrev pub cut_word : ℕ → ℕ → ℕ → Word
cut_word m W c = record { value = m * 2 ^ c / W; len = c + 1 }

-- the word of an item: W is the sum of all weights, S the sum of those before it, w its own
abbrev pub mid_word : ℕ → ℕ → ℕ → Word
mid_word W S w = cut_word (2 * S + w) W (shift w W)

abbrev pub gilbert_moore : List ℕ → ℕ → Word
gilbert_moore ws i = mid_word (sum ws) (sum (take i ws)) (slice_index ws i)
