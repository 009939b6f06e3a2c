-- The sizes and heavy children of rows are those of the labels.
use Rattle.std.proofs.Common.{◌≡◌, ℕ, zero, suc, ◌<◌, ◌≤◌, Bool, true, false, cond, ◌||◌, eqb, leb, List, length, Some, None, Option, sym, refl, ap, ◌∙◌, ⊎_elim, arith}
use Rattle.std.proofs.lemmas.Bool.Decides.{nat_tests}
use Rattle.std.proofs.lemmas.Bool.{cases_eq, cases_lt, eq-eqb, ne_eqb}
use Rattle.rows.proofs.Handing.{meets, tally, size_from}
use Rattle.trees.specs.Above.{is_above}
use Rattle.labels.specs.Sizes.{sum_to, size, heavy}
use Rattle.trees.proofs.Upward.{child}
use Rattle.trees.proofs.Above.{above_none, above_some}
use Rattle.labels.proofs.Sizes.{heavy_most, heavy_first, heavy_none, heavy_child}
use Rattle.rows.specs.Chains.{at, link}
use Rattle.rows.specs.Rows.{parents_in, Rooted, SizeRow}
use Rattle.rows.proofs.Trees.{tree, parent_is}

-- c is a child of v
abbrev pub Child : List ℕ → ℕ → ℕ → Type 0
Child up v c = (1 ≤ c) × (c < length up) × (at up c ≡ v)

-- h is the child of v below n that has the greatest size, the smallest number among equals; or 0, and there is no such child
pub record Heaviest (up size : List ℕ) (n v h : ℕ) : Type 0 where
  pub leaf : h ≡ 0 → (c : ℕ) → c < n → Child up v c → ⊥
  pub child : (h ≡ 0 → ⊥) → (h < n) × Child up v h
  pub most : (c : ℕ) → c < n → Child up v c → at size c ≤ at size h
  pub first : (c : ℕ) → c < h → Child up v c → at size c < at size h

abbrev pub HeaviestTo : List ℕ → List ℕ → List ℕ → ℕ → Type 0
HeaviestTo up size heavy i = (w : ℕ) → w < length up → Heaviest up size i w (at heavy w)

module _ (up : List ℕ) (r : Rooted up) where
  abbrev N : ℕ
  N = length up

  abbrev P : ℕ → Option ℕ
  P = parents_in up

  met : (v k u : ℕ) → u ≤ k → u < N → meets up 1 v k u ≡ is_above P v u
  unfolding meets
  met v zero u h l =
      let z : u ≡ 0 = omega arith in
      let a : is_above P v u ≡ eqb v u = above_none (tree up r) v u (rw z (tree up r).root) in
      let s : eqb u v ≡ eqb v u = grind (arith, nat_tests) in
      s ∙ sym a
  met v (suc k) u h l =
      let ih = met v k (at up u) in
      ⊎_elim
      (λ z. let a : is_above P v u ≡ eqb v u = above_none (tree up r) v u (rw z (tree up r).root) in
      let s : cond (eqb u v) true (cond (leb 1 u) (meets up 1 v k (at up u)) false) ≡ eqb v u = grind (arith, nat_tests) in
      s ∙ sym a)
      (λ nz. let pos : 1 ≤ u = omega arith in
      let b = r.below u pos l in
      let a : is_above P v u ≡ (eqb v u || is_above P v (at up u)) = above_some (tree up r) v u (at up u) (parent_is up u pos l) in
      let i = ih (omega arith) (omega arith) in
      let s : cond (eqb u v) true (cond (leb 1 u) (meets up 1 v k (at up u)) false) ≡ (eqb v u || meets up 1 v k (at up u)) = grind (arith, nat_tests) in
      s ∙ ap (λ (x : Bool). eqb v u || x) i ∙ sym a)
      (cases_eq u 0)

  tally_sum : (p q : ℕ → Bool) (n : ℕ) → ((u : ℕ) → u < n → p u ≡ q u) → tally p n ≡ sum_to n (λ w. cond (q w) 1 0)
  unfolding tally sum_to
  tally_sum p q zero h = refl
  tally_sum p q (suc n) h =
      let a = tally_sum p q n (λ u l. h u (omega arith)) in
      let b : cond {A = ℕ} (p n) 1 0 ≡ cond (q n) 1 0 = ap (λ (x : Bool). cond {A = ℕ} x 1 0) (h n (omega arith)) in
      omega arith

  pub size_is : (v : ℕ) → size_from up 1 v ≡ size P N v
  unfolding size_from size
  size_is v = tally_sum (λ u. meets up 1 v u u) (is_above P v) N (λ u l. met v u u (omega arith) l)

  module _ (row : List ℕ) (S : SizeRow up row) (v h : ℕ) (H : Heaviest up row N v h) where
    child_of : (c : ℕ) → P c ≡ Some v → (1 ≤ c) × (c < N) × (at up c ≡ v)
    child_of c e =
        let l = child (tree up r) c v e in
        let q = parent_is up c (omega arith) l.1 in
        let s : at up c ≡ v = cc in
        (omega arith, l.1, s)

    pub heavy_is_link : heavy P N v ≡ link h
    heavy_is_link = go (heavy P N v) refl
      where
        go : (o : Option ℕ) → heavy P N v ≡ o → heavy P N v ≡ link h
        go None e =
            ⊎_elim (λ (z : h ≡ 0). e ∙ rw (eq-eqb h 0 z) refl)
            (λ (nz : h ≡ 0 → ⊥). let c = H.child nz in let q = parent_is up h c.1.0 c.1.1 in absurd (heavy_none (tree up r) v h e (q ∙ ap {B = Option ℕ} Some c.1.2)))
            (cases_eq h 0)
        go (Some k) e =
            let e' = heavy_child (tree up r) v k e in
            let ck = child_of k e' in
            ⊎_elim (λ (z : h ≡ 0). absurd (H.leaf z k ck.1 ck))
            (λ (nz : h ≡ 0 → ⊥). let c = H.child nz in
            let ph : P h ≡ Some v = parent_is up h c.1.0 c.1.1 ∙ ap {B = Option ℕ} Some c.1.2 in
            let m1 = heavy_most (tree up r) v k h e ph in
            let m2 = H.most k ck.1 ck in
            let sk = S k ck.1 in
            let sh = S h c.0 in
            let le = heavy_first (tree up r) v k h e ph (omega arith) in
            let same : k ≡ h = ⊎_elim (λ (l : k < h). let x = H.first k l ck in absurd (omega arith)) (λ (l : h ≤ k). omega arith) (cases_lt k h) in
            e ∙ ap {B = Option ℕ} Some same ∙ sym (rw (ne_eqb h 0 nz) refl))
            (cases_eq h 0)
