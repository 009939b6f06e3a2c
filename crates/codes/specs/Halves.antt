-- The words of the code by bisection.
use Rattle.std.specs.Prelude.{ℕ, zero, suc, ◌+◌, ◌-◌, ◌*◌, ◌/◌, Bool, true, false, cond, List, [], ◌∷◌, length, nat_le, nat_lt}
use Rattle.codes.specs.declared.word.Word.{Word}

-- half of n items, rounded up
abbrev pub half_up : ℕ → ℕ
half_up n = (n + 1) / 2

-- The bits of item i in a range of n: none where there is one item; else 0 and those in the left half, or 1 and those in the right
-- half. The first number bounds how often is split; n is enough.
abbrev pub path : ℕ → ℕ → ℕ → List Bool
path zero n i = []
path (suc f) n i = cond (nat_le n 1) [] (cond (nat_lt i (half_up n)) (false ∷ path f (half_up n) i) (true ∷ path f (n - half_up n) (i - half_up n)))

abbrev pub bit : Bool → ℕ
bit b = cond b 1 0

-- a word with one bit more at its end
abbrev pub with_bit : Word → Bool → Word
with_bit w b = record { value = 2 * w.value + bit b; len = w.len + 1 }

-- the word that goes on, after the l bits of v, with the bits of a list
abbrev pub word_of : ℕ → ℕ → List Bool → Word
word_of v l [] = record { value = v; len = l }
word_of v l (b ∷ bs) = word_of (2 * v + bit b) (l + 1) bs

-- the word of item i of n; a lone item has the word 0
abbrev pub split_word : ℕ → ℕ → Word
split_word n i = cond (nat_le n 1) (record { value = 0; len = 1 }) (word_of 0 0 (path n n i))

abbrev pub bisection : List ℕ → ℕ → Word
bisection ws i = split_word (length ws) i
