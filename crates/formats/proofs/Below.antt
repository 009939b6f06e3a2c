-- Tests of each number below a bound.
use Rattle.std.proofs.Common.{◌≡◌, ℕ, zero, suc, ◌<◌, Bool, true, refl, ap, ◌∙◌, ⊎_elim, arith}
use Rattle.std.proofs.lemmas.Bool.{and_from, and_parts, cases_eq}
use Rattle.formats.specs.Layout.{all_below}

module _ (p : ℕ → Bool) where
  pub all_at : (n i : ℕ) → all_below p n ≡ true → i < n → p i ≡ true
  all_at zero i a l = absurd (omega arith)
  all_at (suc n) i a l =
      ⊎_elim (λ q. ap p q ∙ (and_parts _ _ a).0) (λ q. all_at n i (and_parts _ _ a).1 (omega arith)) (cases_eq i n)

  pub all_from : (n : ℕ) → ((i : ℕ) → i < n → p i ≡ true) → all_below p n ≡ true
  all_from zero h = refl
  all_from (suc n) h = and_from _ _ (h n (omega arith)) (all_from n (λ i l. h i (omega arith)))
