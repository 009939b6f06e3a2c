-- The proof that a host of indented lines obeys the law of hosts. Nothing here need be believed.
use Rattle.std.specs.Prelude.{◌≡◌, ℕ, zero, suc, ◌+◌, ◌-◌, ◌<◌, ◌≤◌, false, cond, List, length, Some, None, Ok, Option, slice_index, slice_index_or, refl}
use Rattle.std.proofs.Common.{ap, subst, ◌∙◌, ⊎_elim, arith}
use Rattle.std.proofs.lemmas.Bool.{eqb-true, eqb-false, ltb-false, or_parts, cases_lt, cases_eq, eq-eqb, ne_eqb}
use Rattle.trees.specs.Tree.{Tree, most_nodes}
use Rattle.trees.specs.HostLaw.{host_tree}
use Rattle.trees.specs.Indented.{misplaced, or_else, first_misplaced, indented_verdict, nearest, indented_parent}

both_none : (o q : Option ℕ) → or_else o q ≡ None → (o ≡ None) × (q ≡ None)
both_none (Some v) q e = absurd (grind arith)
both_none None q e = (refl, e)

-- where no line up to k is misplaced, line v is not
placed : (xs : List ℕ) (k : ℕ) → first_misplaced xs k ≡ None → (v : ℕ) → 1 ≤ v → v ≤ k → misplaced xs v ≡ false
placed xs zero e v a b = absurd (omega arith)
placed xs (suc k) e v a b =
    let s = both_none (first_misplaced xs k) (cond (misplaced xs (suc k)) (Some (suc k)) None) e in
    ⊎_elim
    (λ (h : v < suc k). placed xs k s.0 v a (omega arith))
    (λ (h : suc k ≤ v). let i : suc k ≡ v = omega arith in subst (λ (j : ℕ). misplaced xs j ≡ false) i (let n : cond (misplaced xs (suc k)) (Some (suc k)) None ≡ None = s.1 in grind arith))
    (cases_lt v (suc k))

-- a line that is not misplaced has level 1 at least, and at most one more than the line before
steps : (xs : List ℕ) (v : ℕ) → misplaced xs v ≡ false → (1 ≤ slice_index xs v) × (slice_index xs v ≤ slice_index xs (v - 1) + 1)
steps xs v e = (grind (arith, or_parts, eqb-false), grind (arith, or_parts, ltb-false))

-- each level from 1 to one more than line k's is one more than that of some line up to k
finds :
    (xs : List ℕ) (k : ℕ) → slice_index xs 0 ≡ 0 → ((v : ℕ) → 1 ≤ v → v ≤ k → misplaced xs v ≡ false)
    → (l : ℕ) → 1 ≤ l → l ≤ slice_index xs k + 1 → (u : ℕ) × (nearest xs l (suc k) ≡ Some u) × (u < suc k)
finds xs zero z sound l a b = (0, ap (λ t. cond t (Some 0) None) (eq-eqb (slice_index xs 0 + 1) l (omega arith)), omega arith)
finds xs (suc k) z sound l a b =
    ⊎_elim
    (λ (e : slice_index_or xs (suc k) 0 + 1 ≡ l). (suc k, ap (λ t. cond t (Some (suc k)) (nearest xs l (suc k))) (eq-eqb (slice_index xs (suc k) + 1) l e), omega arith))
    (λ (e : slice_index_or xs (suc k) 0 + 1 ≡ l → ⊥).
    let i : suc k - 1 ≡ k = omega arith in
    let s : slice_index_or xs (suc k) 0 ≤ slice_index xs k + 1 = subst (λ (j : ℕ). slice_index xs (suc k) ≤ slice_index xs j + 1) i (steps xs (suc k) (sound (suc k) (omega arith) (omega arith))).1 in
    let w = finds xs k z (λ v p q. sound v p (omega arith)) l a (omega arith) in
    (w.0, ap (λ t. cond t (Some (suc k)) (nearest xs l (suc k))) (ne_eqb (slice_index xs (suc k) + 1) l e) ∙ w.1, omega (arith, w.2)))
    (cases_eq (slice_index xs (suc k) + 1) l)

record Sound (xs : List ℕ) (n : ℕ) : Type 0 where
  count : length xs ≡ n
  some : 1 ≤ n
  few : n ≤ most_nodes
  first : slice_index_or xs 0 0 ≡ 0
  none : first_misplaced xs (length xs - 1) ≡ None

sound : (xs : List ℕ) (n : ℕ) → indented_verdict xs ≡ Ok n → Sound xs n
sound xs n e =
    record {
      count = grind (arith, eqb-false, ltb-false);
      some = grind (arith, eqb-false, ltb-false);
      few = grind (arith, eqb-false, ltb-false);
      first = grind (arith, eqb-true, ltb-false);
      none = grind (arith, eqb-false, ltb-false);
    }

has_parent : (xs : List ℕ) (n : ℕ) → Sound xs n → (v : ℕ) → 1 ≤ v → v < n → (u : ℕ) × (nearest xs (slice_index xs v) v ≡ Some u) × (u < v)
has_parent xs n s v a b =
    let good = placed xs (length xs - 1) s.none in
    let k = steps xs v (good v a (omega (arith, s.count))) in
    let i : suc (v - 1) ≡ v = omega arith in
    let w = finds xs (v - 1) s.first (λ j p q. good j p (omega (arith, s.count))) (slice_index xs v) k.0 k.1 in
    (w.0, subst (λ (j : ℕ). nearest xs (slice_index xs v) j ≡ Some w.0) i w.1, omega (arith, w.2))

pub indented_tree : (xs : List ℕ) (n : ℕ) → indented_verdict xs ≡ Ok n → Tree (indented_parent xs) n
indented_tree xs n e =
    let s = sound xs n e in
    host_tree (indented_verdict xs) n (λ v. nearest xs (slice_index xs v) v) e s.some s.few (has_parent xs n s)

-- where the verdict is a count, there are as many lines
pub counted : (xs : List ℕ) (n : ℕ) → indented_verdict xs ≡ Ok n → length xs ≡ n
counted xs n e = (sound xs n e).count
