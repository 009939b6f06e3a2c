-- The tags of a tree, and the sheet that holds them all.
use Rattle.std.specs.Prelude.{ℕ, ◌+◌, ◌*◌, ◌/◌, ◌%◌, List, ◌++◌, map, length, Option}
use Rattle.std.specs.List.{range_with_len, flat_map}
use Rattle.codes.specs.declared.word.Word.{Word}
use Rattle.formats.specs.Models.{two, tag_bytes}
use Rattle.labels.specs.Sizes.{sum_to}
use Rattle.labels.specs.Labels.{label}

-- a number in four bytes, low byte first
abbrev pub four : ℕ → List ℕ
four x = two (x % 65536) ++ two (x / 65536)

-- the bytes before the first tag: tree number, n, and n + 1 offsets
abbrev pub header_bytes : ℕ → ℕ
header_bytes n = 4 + 4 * (n + 1)

module _ (parent : ℕ → Option ℕ) (n : ℕ) (word : List ℕ → ℕ → Word) (number : ℕ) where
  -- the tag of node v under a tree number
  unfoldable pub tag : ℕ → List ℕ
  tag v = tag_bytes number (label parent n word v)

  -- where the tag of v begins, counted from the sheet's start; that of n is the sheet's length
  unfoldable pub offset : ℕ → ℕ
  offset v = header_bytes n + sum_to v (λ w. length (tag w))

  -- tree number, n, the offsets of 0 to n, then the tags by node number
  unfoldable pub sheet : List ℕ
  sheet = two number ++ (two n ++ (flat_map four (map offset (range_with_len 0 (n + 1))) ++ flat_map tag (range_with_len 0 n)))
