-- Field j of two tags, by the numbers that their bytes hold.
use Rattle.std.proofs.Common.{◌≡◌, ℕ, ◌<◌, ◌≤◌, min, false, List, Some, None, arith}
use Rattle.std.proofs.lemmas.Bool.Decides.{nat_tests}
use Rattle.formats.specs.Layout.{count_of}
use Rattle.formats.specs.Models.{field_at, label_of}
use Rattle.formats.specs.Pairs.{nth_field, clash_at}
use Rattle.formats.proofs.Answering.{nth_label}

pub here : (bs : List ℕ) (j : ℕ) → j < count_of bs → nth_field (label_of bs) j ≡ Some (field_at bs j)
here bs j l = grind (arith, nat_tests, nth_label)

pub past : (bs : List ℕ) (j : ℕ) → count_of bs ≤ j → nth_field (label_of bs) j ≡ None
past bs j l = grind (arith, nat_tests, nth_label)

-- one has ended
pub clash_past : (a b : List ℕ) (j : ℕ) → min (count_of a) (count_of b) ≤ j → false ≡ clash_at (nth_field (label_of a) j) (nth_field (label_of b) j)
clash_past a b j h = grind (arith, here, past)
