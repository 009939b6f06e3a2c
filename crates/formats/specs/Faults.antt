-- The faults of bytes that are no tag.
use Rattle.std.specs.Prelude.{ℕ, ◌+◌, ◌/◌, ◌%◌, Bool, cond, not, ◌||◌, List, [], ◌∷◌, length, Some, None, Option, ◌==◌, nat_lt}
use Rattle.formats.specs.declared.fault.TagFault.{TagFault}
use Rattle.formats.specs.declared.fault.TagFault.TheVariants.{Number, Count, Head, End, Depth, Length, Spare}
use Rattle.formats.specs.Limits.{most_fields}
use Rattle.formats.specs.Layout.{tree_of, count_of, head_of, size_of, ends_fine, depths_fine, spare_at}

-- the first whose test is true
abbrev pub first_of : {X : Type 0} → List (Bool × X) → Option X
first_of [] = None
first_of (p ∷ rest) = cond p.0 (Some p.1) (first_of rest)

-- the faults in their order, each with its test
abbrev pub fault_tests : List ℕ → List (Bool × TagFault)
fault_tests bs =
    (nat_lt (length bs) 3 || (tree_of bs == 0), Number)
    ∷ (count_of bs % 2 == 0 || nat_lt most_fields (count_of bs), Count)
    ∷ (nat_lt (length bs) (head_of bs), Head)
    ∷ (not (ends_fine bs (count_of bs)), End)
    ∷ (not (depths_fine bs ((count_of bs + 1) / 2)), Depth)
    ∷ (not (length bs == size_of bs), Length)
    ∷ (not (spare_at bs == 0), Spare)
    ∷ []

-- why bytes are no tag: the first that applies
unfoldable pub tag_fault : List ℕ → Option TagFault
tag_fault bs = first_of (fault_tests bs)
