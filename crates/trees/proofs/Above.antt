-- Standing at or above.
use Rattle.std.proofs.Common.{◌≡◌, ℕ, ◌<◌, ◌≤◌, true, false, ◌||◌, eqb, ◌⊎◌, Some, None, Option, sym, refl, ap, ◌∙◌, inl, inr, ⊎_elim, arith}
use Rattle.std.proofs.lemmas.Bool.{eqb-true, eq-eqb, ne_eqb, or_cases, or_left, or_right, cases_Bool, cases_eq}
use Rattle.trees.specs.Tree.{Tree}
use Rattle.trees.specs.Above.{AtOrAbove, here, up, is_above}
use Rattle.trees.specs.Order.{Order}
use Rattle.trees.proofs.Upward.{child, upward, orphan, rise_none, rise_some}

module _ {parent : ℕ → Option ℕ} where
  pub through : {a b c : ℕ} → AtOrAbove parent a b → AtOrAbove parent b c → AtOrAbove parent a c
  through h here = h
  through h (up e k) = up e (through h k)

  -- what stands at or above v is v, or stands at or above its parent
  pub here_or_up : {a v : ℕ} (p : ℕ) → parent v ≡ Some p → AtOrAbove parent a v → (a ≡ v) ⊎ AtOrAbove parent a p
  here_or_up p e here = inl refl
  here_or_up p e (up {p = q} e' h) = let s : q ≡ p = cc in inr (rw s at h)

  pub chain : {a b v : ℕ} → AtOrAbove parent a v → AtOrAbove parent b v → AtOrAbove parent a b ⊎ AtOrAbove parent b a
  chain here k = inr k
  chain (up e h) k = ⊎_elim (λ s. inl (rw s (up e h))) (λ k'. chain h k') (here_or_up _ e k)

module _ {parent : ℕ → Option ℕ} {n : ℕ} (T : Tree parent n) where
  -- what stands above has a smaller number
  pub smaller : {a v : ℕ} → AtOrAbove parent a v → a ≤ v
  smaller here = omega arith
  smaller (up {v = v} {p = p} e h) = let l = (child T v p e).0 in let m = smaller h in omega arith

  pub both : {a b : ℕ} → AtOrAbove parent a b → AtOrAbove parent b a → a ≡ b
  both h k = let l = smaller h in let m = smaller k in omega arith

  pub above_none : (a v : ℕ) → parent v ≡ None → is_above parent a v ≡ eqb a v
  unfolding is_above
  above_none a v e = rise_none T _ _ v e

  pub above_some : (a v p : ℕ) → parent v ≡ Some p → is_above parent a v ≡ (eqb a v || is_above parent a p)
  unfolding is_above
  above_some a v p e = rise_some T _ _ v p e

  passes_here : (a : ℕ) → is_above parent a a ≡ true
  passes_here a = go (parent a) refl
    where
      go : (o : Option ℕ) → parent a ≡ o → is_above parent a a ≡ true
      go None e = above_none a a e ∙ eq-eqb a a refl
      go (Some p) e = above_some a a p e ∙ or_left (eqb a a) (is_above parent a p) (eq-eqb a a refl)

  pub passes : {a v : ℕ} → AtOrAbove parent a v → is_above parent a v ≡ true
  passes {a} here = passes_here a
  passes {a} (up {v = v} {p = p} e h) = above_some a v p e ∙ or_right (eqb a v) (is_above parent a p) (passes h)

  pub passed : (a v : ℕ) → is_above parent a v ≡ true → AtOrAbove parent a v
  passed a =
      upward T (λ v. is_above parent a v ≡ true → AtOrAbove parent a v)
      (λ v e h. let s : a ≡ v = eqb-true a v (sym (above_none a v e) ∙ h) in rw s here)
      (λ v p e ih h. ⊎_elim (λ t. let s : a ≡ v = eqb-true a v t in rw s here) (λ t. up e (ih t))
      (or_cases (eqb a v) (is_above parent a p) (sym (above_some a v p e) ∙ h)))

  -- a greater number does not stand above
  pub not_above : (a v : ℕ) → v < a → is_above parent a v ≡ false
  not_above a v h =
      ⊎_elim (λ t. let l = smaller (passed a v t) in absurd (omega arith)) (λ f. f) (cases_Bool (is_above parent a v))

  -- a climb for a goes on above a, and may stop at a or below
  pub above_up : (a v p : ℕ) → a < v → parent v ≡ Some p → is_above parent a v ≡ is_above parent a p
  above_up a v p h e = above_some a v p e ∙ ap (λ t. t || is_above parent a p) (ne_eqb a v (λ z. omega arith))

  pub above_end : (a v : ℕ) → v ≤ a → eqb v a ≡ is_above parent a v
  above_end a v h =
      ⊎_elim (λ (s : v ≡ a). rw s (eq-eqb a a refl ∙ sym (passes_here a)))
      (λ (d : v ≡ a → ⊥). ne_eqb v a d ∙ sym (not_above a v (omega arith)))
      (cases_eq v a)

  -- the root stands at or above every node
  pub root_above : (v : ℕ) → v < n → AtOrAbove parent 0 v
  root_above =
      upward T (λ v. v < n → AtOrAbove parent 0 v)
      (λ v e h. let z : v ≡ 0 = orphan T v h e in rw z here)
      (λ v p e ih h. let l = (child T v p e).0 in up e (ih (omega arith)))

  pub order : Order parent
  order =
      record {
        same = λ a. here;
        through = λ a b c h k. through h k;
        both = λ a b h k. both h k;
        chain = λ a b v h k. chain h k;
        passes = λ a v h. passes h;
        passed = passed;
      }
