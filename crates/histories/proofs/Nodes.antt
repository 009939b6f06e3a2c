-- The tags of a tree's nodes, as a rack takes them.
use Rattle.std.proofs.Common.{◌≡◌, ℕ, ◌<◌, ◌≤◌, Bool, true, false, cond, not, eqb, List, [], ◌∷◌, Some, None, Option, sym, refl, ◌∙◌, arith}
use Rattle.std.proofs.lemmas.Bool.{eq-eqb, eqb-true}
use Rattle.trees.specs.Tree.{Tree}
use Rattle.trees.specs.Deepest.{Deepest}
use Rattle.codes.specs.declared.word.Word.{Word}
use Rattle.codes.specs.Coding.{Lawful}
use Rattle.formats.specs.declared.fault.TagFault.{TagFault}
use Rattle.formats.specs.Limits.{most_number}
use Rattle.formats.specs.Layout.{tree_of}
use Rattle.formats.specs.Faults.{first_of, tag_fault}
use Rattle.formats.specs.Models.{tag_bytes, label_of}
use Rattle.formats.specs.Pairs.{clash, cover}
use Rattle.formats.proofs.Readable.{none_from}
use Rattle.labels.specs.Sheet.{tag}
use Rattle.labels.proofs.Covering.{all_covers}
use Rattle.labels.proofs.Tags.{known, all_tag_covers, all_distinct}
use Rattle.histories.specs.Model.{Refusal, other_tree, not_one_tree, own_fault, start_fault, add_fault, part_of, joined}

-- what holds of a tag that is not refused
pub record Fitting (tree : ℕ) (b : List ℕ) : Type 0 where
  pub sound : tag_fault b ≡ None
  pub right : tree_of b ≡ tree

own_none : (o : Option TagFault) (r : Option Refusal) → own_fault o r ≡ None → (o ≡ None) × (r ≡ None)
own_none None r e = (refl, e)
own_none (Some f) r e = let z : ◌≡◌ {A = ℕ} 0 1 = cc in absurd (omega arith)

not-true : (b : Bool) → not b ≡ false → b ≡ true
not-true true e = refl
not-true false e = sym e

fitting : (tree : ℕ) (b : List ℕ) (rest : Option Refusal) → own_fault (tag_fault b) (cond (not (eqb tree (tree_of b))) (Some other_tree) rest) ≡ None → Fitting tree b
fitting tree b rest e =
    let a = own_none (tag_fault b) (cond (not (eqb tree (tree_of b))) (Some other_tree) rest) e in
    let c = none_from (not (eqb tree (tree_of b))) other_tree rest a.1 in
    record { sound = a.0; right = sym (eqb-true tree (tree_of b) (not-true (eqb tree (tree_of b)) c.0)) }

pub start_fitting : (tree : ℕ) (b : List ℕ) → start_fault tree b ≡ None → Fitting tree b
unfolding start_fault
start_fitting tree b e = fitting tree b None e

pub add_fitting : (tree : ℕ) (h b : List ℕ) → add_fault tree h b ≡ None → Fitting tree b
unfolding add_fault
add_fitting tree h b e = fitting tree b (first_of ((clash (label_of h) (label_of b), not_one_tree) ∷ [])) e

-- an add that is not refused
pub add_calm : (tree : ℕ) (h b : List ℕ) → add_fault tree h b ≡ None → clash (label_of h) (label_of b) ≡ false
unfolding add_fault
add_calm tree h b e =
    let a = own_none (tag_fault b) (cond (not (eqb tree (tree_of b))) (Some other_tree) (first_of ((clash (label_of h) (label_of b), not_one_tree) ∷ []))) e in
    let c = none_from (not (eqb tree (tree_of b))) other_tree (first_of ((clash (label_of h) (label_of b), not_one_tree) ∷ [])) a.1 in
    (none_from (clash (label_of h) (label_of b)) not_one_tree None c.1).0

module _ (parent : ℕ → Option ℕ) (n : ℕ) (word : List ℕ → ℕ → Word) (T : Tree parent n) (L : Lawful word) (number : ℕ) where
  -- even where no tag can be read
  pub tree_tag : (v : ℕ) → tree_of (tag parent n word number v) ≡ number
  unfolding tag tag_bytes
  tree_tag v = omega arith

  module _ (some : 1 ≤ number) (small : number ≤ most_number) where
    pub starts_fine : (tree v : ℕ) → v < n → tree ≡ number → start_fault tree (tag parent n word number v) ≡ None
    unfolding start_fault
    starts_fine tree v l e =
        let a = (known word T L number some small v l).sound in
        let b = eq-eqb tree (tree_of (tag parent n word number v)) (e ∙ sym (tree_tag v)) in
        λ i. own_fault (a i) (cond (not (b i)) (Some other_tree) None)

    pub adds_fine : (tree u v : ℕ) → u < n → v < n → tree ≡ number → add_fault tree (tag parent n word number u) (tag parent n word number v) ≡ None
    unfolding add_fault
    adds_fine tree u v k l e =
        let a = (known word T L number some small v l).sound in
        let b = eq-eqb tree (tree_of (tag parent n word number v)) (e ∙ sym (tree_tag v)) in
        let f = (known word T L number some small u k).fields in
        let g = (known word T L number some small v l).fields in
        let c : clash (label_of (tag parent n word number u)) (label_of (tag parent n word number v)) ≡ false =
        (λ i. clash (f i) (g i)) ∙ (all_covers parent n word T L).no_clash u v k l in
        λ i. own_fault (a i) (cond (not (b i)) (Some other_tree) (cond (c i) (Some not_one_tree) None))

    -- what a place holds after an add
    pub joined_tag : (u v d : ℕ) → u < n → v < n → Deepest parent (u ∷ v ∷ []) d → joined (tag parent n word number u) (tag parent n word number v) ≡ tag parent n word number d
    unfolding joined
    joined_tag u v d k l D =
        let f = (known word T L number some small u k).fields in
        let g = (known word T L number some small v l).fields in
        (λ i. part_of (cover (f i) (g i)) (tag parent n word number u) (tag parent n word number v))
        ∙ (all_tag_covers parent n word T L number some small).cut_out u v d k l D

    pub tag_one : (u v : ℕ) → u < n → v < n → tag parent n word number u ≡ tag parent n word number v → u ≡ v
    tag_one u v = (all_distinct parent n word T L number some small).tags u v
