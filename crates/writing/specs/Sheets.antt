-- A sheet by the row of parents: its offsets and its tags, in the words of `labels`.
use Rattle.std.specs.Prelude.{ℕ, Bool, List, map, length, nat_le}
use Rattle.std.specs.List.{range_with_len, flat_map}
use Rattle.codes.specs.declared.word.Word.{Word}
use Rattle.formats.specs.Limits.{most_fields}
use Rattle.formats.specs.Layout.{all_below}
use Rattle.labels.specs.Labels.{label}
use Rattle.labels.specs.Sheet.{four, tag, offset, sheet}
use Rattle.rows.specs.Rows.{parents_in}

module _ (f : List ℕ → ℕ → Word) (up : List ℕ) where
  -- no label has more fields than a tag can hold
  abbrev pub row_few : Bool
  row_few = all_below (λ v. nat_le (length (label (parents_in up) (length up) f v)) most_fields) (length up)

  module _ (number : ℕ) where
    abbrev pub row_sheet : List ℕ
    row_sheet = sheet (parents_in up) (length up) f number

    abbrev pub row_offset : ℕ → ℕ
    row_offset v = offset (parents_in up) (length up) f number v

    -- the first k offsets and the first k tags
    unfoldable pub offsets_to : ℕ → List ℕ
    offsets_to k = flat_map four (map (offset (parents_in up) (length up) f number) (range_with_len 0 k))

    unfoldable pub tags_to : ℕ → List ℕ
    tags_to k = flat_map (tag (parents_in up) (length up) f number) (range_with_len 0 k)
