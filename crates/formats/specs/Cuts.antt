-- The first m fields of a tag, as a tag.
use Rattle.std.specs.Prelude.{ℕ, ◌%◌, ◌||◌, List, [], ◌∷◌, ◌++◌, length, take, drop, Some, None, Option, Result, ◌==◌, nat_lt}
use Rattle.formats.specs.declared.fault.TagFault.{TagFault}
use Rattle.formats.specs.declared.fault.CutRefusal.{CutRefusal}
use Rattle.formats.specs.declared.fault.CutRefusal.TheVariants.{InTag, Fields, Room}
use Rattle.formats.specs.Faults.{first_of, tag_fault}
use Rattle.formats.specs.Layout.{tree_of, count_of}
use Rattle.formats.specs.Models.{tag_bytes, label_of, outcome}

abbrev pub cut_tag : List ℕ → ℕ → List ℕ
cut_tag bs m = tag_bytes (tree_of bs) (take m (label_of bs))

-- a tag's own fault comes first
abbrev pub cut_after : Option TagFault → Option CutRefusal → Option CutRefusal
cut_after None rest = rest
cut_after (Some fault) rest = Some (InTag fault)

-- the refusals of cutting at m fields into so many bytes of room
abbrev pub cut_fault : List ℕ → ℕ → ℕ → Option CutRefusal
cut_fault bs m room = cut_after (tag_fault bs) (first_of (
    (m % 2 == 0 || nat_lt (count_of bs) m, Fields)
    ∷ (nat_lt room (length (cut_tag bs m)), Room)
    ∷ []))

-- the length of what is written
abbrev pub cut_answer : List ℕ → ℕ → ℕ → Result ℕ CutRefusal
cut_answer bs m room = outcome (cut_fault bs m room) (length (cut_tag bs m))

-- new bytes over the front of a row; under a refusal the row as it was
abbrev pub written_over : Option CutRefusal → List ℕ → List ℕ → List ℕ
written_over None bs out = bs ++ drop (length bs) out
written_over (Some refusal) bs out = out

-- what the output holds after
abbrev pub cut_output : List ℕ → ℕ → List ℕ → List ℕ
cut_output bs m out = written_over (cut_fault bs m (length out)) (cut_tag bs m) out
