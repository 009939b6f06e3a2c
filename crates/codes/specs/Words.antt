-- The bits of a word, and what it is for one row of bits to stand before another.
use Rattle.std.specs.Prelude.{◌≡◌, ℕ, zero, suc, ◌/◌, ◌%◌, ◌^◌, ◌<◌, ◌≤◌, Bool, true, false, List, [], ◌∷◌, ◌++◌, length, take, ◌==◌, slice_index_or}
use Rattle.codes.specs.declared.word.Word.{Word}

-- the low bit of a number
abbrev pub odd : ℕ → Bool
odd v = v % 2 == 1

-- the n low bits of a number, the high one first
abbrev pub digits : ℕ → ℕ → List Bool
digits zero v = []
digits (suc n) v = digits n (v / 2) ++ (odd v ∷ [])

-- how many numbers have 16 bits: a value is kept as its high and its low half
abbrev pub half_range : ℕ
half_range = 65536

-- the bits of a word, the high one first
abbrev pub bits : Word → List Bool
bits w = digits w.len w.value

-- A word has 1 to 32 bits, and its value has no more bits than that.
pub record Fit (w : Word) : Type 0 where
  pub some_bits : 1 ≤ w.len
  pub most_bits : w.len ≤ 32
  pub small : w.value < 2 ^ w.len

-- There is a place inside both rows before which they agree, and there the first has 0 and the second 1.
pub record Before (a b : List Bool) : Type 0 where
  pub place : ℕ
  pub inside_first : place < length a
  pub inside_second : place < length b
  pub agree : take place a ≡ take place b
  pub zero_there : slice_index_or a place true ≡ false
  pub one_there : slice_index_or b place false ≡ true
