-- What looking up a node on a sheet answers, for any bytes.
use Rattle.std.specs.Prelude.{ℕ, ◌+◌, ◌*◌, ◌||◌, List, [], ◌∷◌, length, Option, Result, nat_le, nat_lt}
use Rattle.std.specs.List.{between}
use Rattle.formats.specs.Layout.{pair_at}
use Rattle.formats.specs.Faults.{first_of}
use Rattle.formats.specs.Models.{outcome}
use Rattle.sheets.specs.declared.look.LookUpRefusal.{LookUpRefusal}
use Rattle.sheets.specs.declared.look.LookUpRefusal.TheVariants.{SheetTooShort, NoSuchNode, BadOffsets}

-- how many nodes a sheet says that it has
abbrev pub nodes_of : List ℕ → ℕ
nodes_of bs = pair_at bs 2

-- where its first tag begins
abbrev pub header_of : List ℕ → ℕ
header_of bs = 8 + 4 * nodes_of bs

-- four bytes, low byte first
abbrev pub four_at : List ℕ → ℕ → ℕ
four_at bs o = pair_at bs o + 65536 * pair_at bs (o + 2)

-- where it says that the tag of v begins
abbrev pub offset_at : List ℕ → ℕ → ℕ
offset_at bs v = four_at bs (4 + 4 * v)

-- the refusals in their order, each with its test
unfoldable pub look_up_fault : List ℕ → ℕ → Option LookUpRefusal
look_up_fault bs v = first_of (
    (nat_lt (length bs) 4 || nat_lt (length bs) (header_of bs), SheetTooShort)
    ∷ (nat_le (nodes_of bs) v, NoSuchNode)
    ∷ (nat_lt (offset_at bs v) (header_of bs) || (nat_lt (offset_at bs (v + 1)) (offset_at bs v) || nat_lt (length bs) (offset_at bs (v + 1))), BadOffsets)
    ∷ [])

-- the part of the sheet from the node's offset up to the next
unfoldable pub look_up_answer : List ℕ → ℕ → Result (List ℕ) LookUpRefusal
look_up_answer bs v = outcome (look_up_fault bs v) (between (offset_at bs v) (offset_at bs (v + 1)) bs)
