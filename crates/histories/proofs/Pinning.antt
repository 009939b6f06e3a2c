-- The model's add and compare, by the queries on the bytes of two tags.
use Rattle.std.proofs.Common.{◌≡◌, ℕ, Bool, true, false, cond, not, eqb, List, Some, None, Ok, Err, Option, Result, sym, refl, ◌∙◌}
use Rattle.std.proofs.lemmas.Bool.{eq-eqb}
use Rattle.formats.specs.declared.fault.TagFault.{TagFault}
use Rattle.formats.specs.declared.fault.PairRefusal.{PairRefusal}
use Rattle.formats.specs.declared.fault.PairRefusal.TheVariants.{OneTag, TreeNumbers, NotOneTree}
use Rattle.formats.specs.declared.answers.Side.TheVariants.{First, Second}
use Rattle.formats.specs.declared.answers.Related.{Related}
use Rattle.formats.specs.Layout.{tree_of}
use Rattle.formats.specs.Faults.{tag_fault}
use Rattle.formats.specs.Models.{label_of, outcome}
use Rattle.formats.specs.Pairs.{clash, related}
use Rattle.formats.specs.Queries.{fault_on, pair_fault, relate_answer}
use Rattle.histories.specs.Model.{Refusal, in_tag, other_tree, not_one_tree, Answer, refuses, relates, own_fault, add_fault, related_or}
use Rattle.histories.proofs.Reading.{HeldTag}

-- a query's refusal, as a rack's
abbrev pub told_of : PairRefusal → Refusal
told_of (OneTag side fault) = in_tag fault
told_of TreeNumbers = other_tree
told_of NotOneTree = not_one_tree

abbrev pub told_if : Option PairRefusal → Option Refusal
told_if None = None
told_if (Some e) = Some (told_of e)

-- the refusals of an add are those of the query on the held tag and the new one
pub add_pinned : (tree : ℕ) (h b : List ℕ) → HeldTag tree h → told_if (pair_fault h b) ≡ add_fault tree h b
unfolding add_fault
add_pinned tree h b H =
    let s = H.sound in
    let r = H.right in
    (λ i. told_if (fault_on First (s i) (fault_on Second (tag_fault b) (cond (not (eqb (r i) (tree_of b))) (Some TreeNumbers) (cond (clash (label_of h) (label_of b)) (Some NotOneTree) None)))))
    ∙ go (tag_fault b) (eqb tree (tree_of b)) (clash (label_of h) (label_of b))
  where
    go : (o : Option TagFault) (p q : Bool)
        → told_if (fault_on Second o (cond (not p) (Some TreeNumbers) (cond q (Some NotOneTree) None)))
        ≡ own_fault o (cond (not p) (Some other_tree) (cond q (Some not_one_tree) None))
    go (Some f) p q = refl
    go None true true = refl
    go None true false = refl
    go None false q = refl

-- a query's answer, as a rack's
abbrev pub related_told : Result Related PairRefusal → Answer
related_told (Ok r) = relates r
related_told (Err e) = refuses (told_of e) None

-- compare answers what the query on the two held tags does
pub compare_pinned : (tree : ℕ) (h k : List ℕ) → HeldTag tree h → HeldTag tree k → related_told (relate_answer h k) ≡ related_or (label_of h) (label_of k)
compare_pinned tree h k H K =
    let s = H.sound in
    let t = K.sound in
    let e = eq-eqb (tree_of h) (tree_of k) (H.right ∙ sym K.right) in
    (λ i. related_told (outcome (fault_on First (s i) (fault_on Second (t i) (cond (not (e i)) (Some TreeNumbers) (cond (clash (label_of h) (label_of k)) (Some NotOneTree) None)))) (related (label_of h) (label_of k))))
    ∙ go (clash (label_of h) (label_of k)) (related (label_of h) (label_of k))
  where
    go : (q : Bool) (x : Related) → related_told (outcome (cond q (Some NotOneTree) None) x) ≡ cond q (refuses not_one_tree None) (relates x)
    go true x = refl
    go false x = refl
