-- What stands where on a sheet.
use Rattle.std.specs.Prelude.{◌≡◌, ℕ, ◌+◌, ◌-◌, ◌*◌, ◌<◌, ◌≤◌, List, length, take, drop, Option}
use Rattle.codes.specs.declared.word.Word.{Word}
use Rattle.formats.specs.Layout.{pair_at}
use Rattle.formats.specs.Theorems.{Bytes}
use Rattle.labels.specs.Sheet.{tag, offset, sheet}

-- four bytes, low byte first
abbrev pub four_at : List ℕ → ℕ → ℕ
four_at bs o = pair_at bs o + 65536 * pair_at bs (o + 2)

module _ (parent : ℕ → Option ℕ) (n : ℕ) (word : List ℕ → ℕ → Word) (number : ℕ) where
  abbrev pub the_sheet : List ℕ
  the_sheet = sheet parent n word number

  abbrev pub begin : ℕ → ℕ
  begin v = offset parent n word number v

  -- A sheet is a row of bytes, as long as its last offset says. It begins with the tree number, the number of nodes and the offsets, and
  -- the tag of a node stands from its offset up to the next one.
  pub record SheetHolds : Type 0 where
    pub bytes : Bytes the_sheet
    pub long : length the_sheet ≡ begin n
    pub tree_number : pair_at the_sheet 0 ≡ number
    pub nodes : pair_at the_sheet 2 ≡ n
    pub offsets : (v : ℕ) → v ≤ n → four_at the_sheet (4 + 4 * v) ≡ begin v
    pub tags : (v : ℕ) → v < n → take (begin (v + 1) - begin v) (drop (begin v) the_sheet) ≡ tag parent n word number v
