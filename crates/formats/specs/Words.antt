-- Words in bytes.
use Rattle.std.specs.Prelude.{ℕ, ◌+◌, ◌-◌, ◌*◌, ◌/◌, Bool, true, false, List, map, length, drop, slice_index_or}
use Rattle.std.specs.List.{range_with_len}
use Rattle.formats.specs.Label.{Word}
use Rattle.formats.specs.Layout.{head_of, begin_at, end_at, bit_at}

-- n bits from a bit on
abbrev pub bits_at : List ℕ → ℕ → ℕ → Word
bits_at bs from n = map (λ t. bit_at bs (from + t)) (range_with_len 0 n)

-- the word of field i
abbrev pub word_at : List ℕ → ℕ → Word
word_at bs i = bits_at (drop (head_of bs) bs) (begin_at bs i) (end_at bs i - begin_at bs i)

abbrev pub digit : Bool → ℕ
digit true = 1
digit false = 0

-- bit i of a word, 0 past its end
abbrev pub digit_at : Word → ℕ → ℕ
digit_at ws i = digit (slice_index_or ws i false)

-- byte q of a row of bits
abbrev pub byte_at : Word → ℕ → ℕ
byte_at ws q =
    digit_at ws (8 * q + 0) * 128 + digit_at ws (8 * q + 1) * 64 + digit_at ws (8 * q + 2) * 32 + digit_at ws (8 * q + 3) * 16
    + digit_at ws (8 * q + 4) * 8 + digit_at ws (8 * q + 5) * 4 + digit_at ws (8 * q + 6) * 2 + digit_at ws (8 * q + 7)

-- bits as bytes, filled up with 0 bits
abbrev pub pack : Word → List ℕ
pack ws = map (byte_at ws) (range_with_len 0 ((length ws + 7) / 8))
