-- Recursion and induction from a node up to the root.
use Rattle.std.proofs.Common.{◌≡◌, ℕ, zero, suc, ◌<◌, ◌≤◌, ◌⊎◌, Some, None, Option, refl, ap, inl, inr, ⊎_elim, arith}
use Rattle.std.proofs.lemmas.Bool.{cases_lt}
use Rattle.trees.specs.Tree.{Tree}
use Rattle.trees.specs.Above.{opt, climb, rise, depth_of}
use Rattle.trees.specs.Order.{Depths}

module _ {parent : ℕ → Option ℕ} {n : ℕ} (T : Tree parent n) where
  -- what has a parent is a node, and the parent has a smaller number
  pub child : (v p : ℕ) → parent v ≡ Some p → (p < v) × (v < n)
  child zero p e = let r = T.root in absurd (grind arith)
  child (suc w) p e =
      ⊎_elim
      (λ (h : suc w < n). let i = T.inner (suc w) (omega arith) h in let s : i.0 ≡ p = grind arith in (omega (arith, i.2), h))
      (λ (h : n ≤ suc w). let r = T.outer (suc w) h in absurd (grind arith))
      (cases_lt (suc w) n)

  -- induction
  pub upward :
      (P : ℕ → Type 0) → ((v : ℕ) → parent v ≡ None → P v) → ((v p : ℕ) → parent v ≡ Some p → P p → P v) → (v : ℕ) → P v
  upward P base step v = go v v (omega arith)
    where
      at : (v : ℕ) → ((p : ℕ) → p < v → P p) → (o : Option ℕ) → parent v ≡ o → P v
      at v ih None e = base v e
      at v ih (Some p) e = step v p e (ih p (child v p e).0)

      go : (k v : ℕ) → v ≤ k → P v
      go zero v h = at v (λ p l. absurd (omega arith)) (parent v) refl
      go (suc k) v h = at v (λ p l. go k p (omega arith)) (parent v) refl

  -- a node is the root or has a parent
  pub root_or : (v : ℕ) → v < n → (v ≡ 0) ⊎ ((p : ℕ) × (parent v ≡ Some p))
  root_or zero h = inl refl
  root_or (suc w) h = let i = T.inner (suc w) (omega arith) h in inr (i.0, i.1)

  -- a node with no parent is the root
  pub orphan : (v : ℕ) → v < n → parent v ≡ None → v ≡ 0
  orphan v h e = ⊎_elim (λ z. z) (λ t. let f = t.1 in absurd (grind arith)) (root_or v h)

  module _ {A : Type 0} (base : ℕ → A) (step : ℕ → ℕ → A → A) where
    enough : (j k v : ℕ) → v ≤ j → v ≤ k → climb parent base step j v ≡ climb parent base step k v
    unfolding climb
    enough zero zero v h i = refl
    enough zero (suc k) zero h i = rw T.root refl
    enough zero (suc k) (suc v) h i = absurd (omega arith)
    enough (suc j) zero zero h i = rw T.root refl
    enough (suc j) zero (suc v) h i = absurd (omega arith)
    enough (suc j) (suc k) v h i = go (λ p l. enough j k p (omega arith) (omega arith)) (parent v) refl
      where
        go :
            ((p : ℕ) → p < v → climb parent base step j p ≡ climb parent base step k p)
            → (o : Option ℕ) → parent v ≡ o
            → opt (base v) (λ p. step v p (climb parent base step j p)) o ≡ opt (base v) (λ p. step v p (climb parent base step k p)) o
        go ih None e = refl
        go ih (Some p) e = ap (step v p) (ih p (child v p e).0)

    pub rise_none : (v : ℕ) → parent v ≡ None → rise parent base step v ≡ base v
    unfolding rise climb
    rise_none zero e = refl
    rise_none (suc v) e = rw e refl

    pub rise_some : (v p : ℕ) → parent v ≡ Some p → rise parent base step v ≡ step v p (rise parent base step p)
    unfolding rise climb
    rise_some zero p e = let l = (child zero p e).0 in absurd (omega arith)
    rise_some (suc v) p e =
        let l = (child (suc v) p e).0 in
        rw e (ap (step (suc v) p) (enough v p p (omega arith) (omega arith)))

  pub depth_none : (v : ℕ) → parent v ≡ None → depth_of parent v ≡ 0
  unfolding depth_of
  depth_none v e = rise_none _ _ v e

  pub depth_some : (v p : ℕ) → parent v ≡ Some p → depth_of parent v ≡ suc (depth_of parent p)
  unfolding depth_of
  depth_some v p e = rise_some _ _ v p e

  pub depth_small : (v : ℕ) → depth_of parent v ≤ v
  depth_small =
      upward (λ v. depth_of parent v ≤ v)
      (λ v e. let d = depth_none v e in omega arith)
      (λ v p e ih. let d = depth_some v p e in let l = (child v p e).0 in omega arith)

  pub depths : Depths parent
  depths = record { root = depth_none 0 T.root; child = depth_some }
