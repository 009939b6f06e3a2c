-- The bits of bytes.
use Rattle.std.specs.Prelude.{ℕ, ◌/◌, Bool, List, [], ◌∷◌}
use Rattle.std.specs.List.{flat_map}
use Rattle.codes.specs.Words.{odd}

-- the bits of a byte, the high one first
abbrev pub byte_bits : ℕ → List Bool
byte_bits b = odd (b / 128) ∷ odd (b / 64) ∷ odd (b / 32) ∷ odd (b / 16) ∷ odd (b / 8) ∷ odd (b / 4) ∷ odd (b / 2) ∷ odd b ∷ []

-- the bits of bytes, one byte after the other
unfoldable pub unpacked : List ℕ → List Bool
unpacked xs = flat_map byte_bits xs
