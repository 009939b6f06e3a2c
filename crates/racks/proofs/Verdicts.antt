-- The refusals of a tag on a rack, from what is known of its bytes.
use Rattle.std.proofs.Common.{◌≡◌, ℕ, ◌≤◌, Bool, true, false, cond, not, ◌==◌, List, length, Some, None, Ok, Err, Option, Bor, sym, refl, ap, ◌∙◌, arith}
use Rattle.std.proofs.lemmas.Bool.{eqb-true}
use Rattle.std.proofs.lemmas.Bool.Decides.{nat_tests}
use Rattle.formats.specs.declared.fault.TagFault.{TagFault}
use Rattle.formats.specs.declared.fault.PairRefusal.{PairRefusal}
use Rattle.formats.specs.declared.fault.PairRefusal.TheVariants.{TreeNumbers, NotOneTree}
use Rattle.formats.specs.Faults.{tag_fault}
use Rattle.formats.specs.Layout.{tree_of, count_of}
use Rattle.formats.specs.Models.{label_of}
use Rattle.formats.specs.Pairs.{clash, cover, side_of}
use Rattle.formats.specs.Cuts.{cut_tag}
use Rattle.formats.specs.Theorems.{Shared}
use Rattle.formats.specs.declared.answers.Part.{Part}
use Rattle.formats.specs.declared.answers.Side.{Side}
use Rattle.formats.specs.declared.answers.Side.TheVariants.{First, Second}
use Rattle.formats.specs.Queries.{fault_on, pair_fault, cover_answer}
use Rattle.formats.proofs.Answering.{length_label}
use Rattle.formats.proofs.Read.{outcome_ok, outcome_err}
use Rattle.histories.specs.Model.{Refusal, in_tag, other_tree, not_one_tree, own_fault, start_fault, add_fault, part_of, joined}
use Rattle.racks.specs.Refusals.{refused_pair}
use Rattle.racks.specs.Views.{refusal_of}

-- to start

module _ (tree : ℕ) (b : List ℕ) where
  pub start_in_tag : (fault : TagFault) → tag_fault b ≡ Some fault → start_fault tree b ≡ Some (in_tag fault)
  unfolding start_fault
  start_in_tag fault f = rw f

  pub start_other : tag_fault b ≡ None → (tree_of b ≡ tree → ⊥) → start_fault tree b ≡ Some other_tree
  unfolding start_fault
  start_other f n = rw f (grind (arith, nat_tests))

  pub start_fine : tag_fault b ≡ None → tree_of b ≡ tree → start_fault tree b ≡ None
  unfolding start_fault
  start_fine f n = rw f (grind (arith, nat_tests))

-- to add

abbrev pub told_of : Option PairRefusal → Option Refusal
told_of None = None
told_of (Some why) = Some (refusal_of (refused_pair why))

module _ (h b : List ℕ) (f : tag_fault h ≡ None) where
  abbrev Clash : Option PairRefusal
  Clash = cond (clash (label_of h) (label_of b)) (Some NotOneTree) None

  abbrev second_on : Option TagFault → Bool → Option PairRefusal
  second_on o differ = fault_on Second o (cond differ (Some TreeNumbers) Clash)

  to_second : pair_fault h b ≡ second_on (tag_fault b) (not (tree_of h == tree_of b))
  to_second = ap (λ o. fault_on First o (second_on (tag_fault b) (not (tree_of h == tree_of b)))) f

  -- a rack for the held tag's tree refuses what a query on the two tags refuses
  pub add_is : add_fault (tree_of h) h b ≡ told_of (pair_fault h b)
  unfolding add_fault
  add_is = go (tag_fault b) (not (tree_of h == tree_of b)) (clash (label_of h) (label_of b)) ∙ sym (ap told_of to_second)
    where
      go : (o : Option TagFault) (p q : Bool) → own_fault o (cond p (Some other_tree) (cond q (Some not_one_tree) None)) ≡ told_of (fault_on Second o (cond p (Some TreeNumbers) (cond q (Some NotOneTree) None)))
      go (Some fault) p q = refl
      go None true q = refl
      go None false true = refl
      go None false false = refl

  -- tags of which no query is refused have one number
  one_number : pair_fault h b ≡ None → tree_of b ≡ tree_of h
  one_number n = sym (go (tag_fault b) (tree_of h == tree_of b) refl (sym to_second ∙ n))
    where
      go : (o : Option TagFault) (t : Bool) → tree_of h == tree_of b ≡ t → second_on o (not t) ≡ None → tree_of h ≡ tree_of b
      go (Some fault) t g k = cc
      go None true g k = eqb-true (tree_of h) (tree_of b) g
      go None false g k = cc

  pub join_refused : (why : PairRefusal) → Err why ≡ cover_answer h b → add_fault (tree_of h) h b ≡ Some (refusal_of (refused_pair why))
  join_refused why a = add_is ∙ ap told_of (outcome_err _ _ why a)

  -- the cover of the two, cut out
  module _ (p : Part) (a : Ok p ≡ cover_answer h b) where
    fine : (pair_fault h b ≡ None) × (cover (label_of h) (label_of b) ≡ p)
    fine = outcome_ok _ _ p (sym a)

    pub join_fine : add_fault (tree_of h) h b ≡ None
    join_fine = add_is ∙ ap told_of fine.0

    pub join_bytes : cut_tag (side_of p.side h b) p.fields ≡ joined h b
    unfolding joined
    join_bytes = ap (λ x. part_of x h b) (sym fine.1)

    pub join_tree : tree_of (side_of p.side h b) ≡ tree_of h
    join_tree = go p.side
      where
        go : (s : Side) → tree_of (side_of s h b) ≡ tree_of h
        go First = refl
        go Second = one_number fine.0

-- of the two tags, the bytes of the one that is taken
pub side_now : (s : Side) (x y z : Bor (List ℕ)) → z ≡ side_of s x y → z.now ≡ side_of s x.now y.now
side_now First x y z e = ap (λ (z : Bor (List ℕ)). z.now) e
side_now Second x y z e = ap (λ (z : Bor (List ℕ)). z.now) e

-- the fields that a part has are there
pub part_within : (a b : List ℕ) (p : Part) → Shared (label_of a) (label_of b) p → p.fields ≤ count_of (side_of p.side a b)
part_within a b p h = go p.side h.within
  where
    go : (x : Side) → p.fields ≤ length (side_of x (label_of a) (label_of b)) → p.fields ≤ count_of (side_of x a b)
    go First g = omega (arith, length_label a)
    go Second g = omega (arith, length_label b)
