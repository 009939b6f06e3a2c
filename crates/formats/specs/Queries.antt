-- The queries on the bytes of two tags, with every refusal.
use Rattle.std.specs.Prelude.{ℕ, not, List, [], ◌∷◌, Some, None, Option, Result, ◌==◌}
use Rattle.formats.specs.declared.fault.TagFault.{TagFault}
use Rattle.formats.specs.declared.fault.PairRefusal.{PairRefusal}
use Rattle.formats.specs.declared.fault.PairRefusal.TheVariants.{OneTag, TreeNumbers, NotOneTree}
use Rattle.formats.specs.declared.answers.Difference.{Difference}
use Rattle.formats.specs.declared.answers.Part.{Part}
use Rattle.formats.specs.declared.answers.Related.{Related}
use Rattle.formats.specs.declared.answers.Side.{Side}
use Rattle.formats.specs.declared.answers.Side.TheVariants.{First, Second}
use Rattle.formats.specs.Label.{Label}
use Rattle.formats.specs.Layout.{tree_of}
use Rattle.formats.specs.Faults.{first_of, tag_fault}
use Rattle.formats.specs.Models.{label_of, outcome}
use Rattle.formats.specs.Pairs.{clash, difference, cover, related}

-- a fault on that side comes before the rest
abbrev pub fault_on : Side → Option TagFault → Option PairRefusal → Option PairRefusal
fault_on side None rest = rest
fault_on side (Some fault) rest = Some (OneTag side fault)

-- the first refusal that applies
abbrev pub pair_fault : List ℕ → List ℕ → Option PairRefusal
pair_fault a b = fault_on First (tag_fault a) (fault_on Second (tag_fault b) (first_of (
    (not (tree_of a == tree_of b), TreeNumbers)
    ∷ (clash (label_of a) (label_of b), NotOneTree)
    ∷ [])))

-- a query on labels, as one on bytes
abbrev pub on_labels : {X : Type 0} → (Label → Label → X) → List ℕ → List ℕ → Result X PairRefusal
on_labels f a b = outcome (pair_fault a b) (f (label_of a) (label_of b))

abbrev pub difference_answer : List ℕ → List ℕ → Result Difference PairRefusal
difference_answer a b = on_labels difference a b

abbrev pub cover_answer : List ℕ → List ℕ → Result Part PairRefusal
cover_answer a b = on_labels cover a b

abbrev pub relate_answer : List ℕ → List ℕ → Result Related PairRefusal
relate_answer a b = on_labels related a b
