-- The two searches through the levels of a list.
use Rattle.std.proofs.Common.{◌≡◌, ◌≢◌, ℕ, zero, suc, ◌+◌, ◌<◌, ◌≤◌, true, false, get_or, take, List, Some, None, sym, refl, ap, ⊎_elim, arith}
use Rattle.std.proofs.lemmas.Bool.{cases_lt, eq-eqb, ne_eqb}
use Rattle.std.proofs.lemmas.List.{get_or-take}
use Rattle.trees.specs.Indented.{misplaced, first_misplaced, nearest}

module _ (xs : List ℕ) where
  -- none of the n lines after the first is misplaced
  abbrev Well : ℕ → Type 0
  Well n = (k : ℕ) → k < n → misplaced xs (suc k) ≡ false

  pub none_misplaced : (n : ℕ) → Well n → first_misplaced xs n ≡ None
  none_misplaced zero h = refl
  none_misplaced (suc k) h = rw (none_misplaced k (λ v a. h v (omega arith)), h k (omega arith)) refl

  -- the line after line i is the first that is misplaced
  pub first_found : (n i : ℕ) → i < n → misplaced xs (suc i) ≡ true → Well i → Some (i + 1) ≡ first_misplaced xs n
  first_found zero i b m w = absurd (omega arith)
  first_found (suc k) i b m w =
      ⊎_elim
      (λ (c : i < k). rw (sym (first_found k i c m w)) refl)
      (λ (c : k ≤ i).
      let e : i ≡ k = omega arith in
      let z : i + 1 ≡ suc i = omega arith in
      rw (sym e, none_misplaced i w, m) (ap Some z))
      (cases_lt i k)

-- The search back from line n for a line with a level one less than l.
module _ (xs : List ℕ) (l : ℕ) where
  -- no line from line a to the line before n has a level one less than l
  abbrev None_in : ℕ → ℕ → Type 0
  None_in a n = (k : ℕ) → a ≤ k → k < n → get_or xs k 0 + 1 ≢ l

  -- the levels from line n on play no part
  pub nearest-take : (n m : ℕ) → m ≤ n → nearest (take n xs) l m ≡ nearest xs l m
  nearest-take n zero h = refl
  nearest-take n (suc k) h = rw (get_or-take n xs k 0 (omega arith), nearest-take n k (omega arith)) refl

  pub nearest_none : (n : ℕ) → None_in 0 n → nearest xs l n ≡ None
  nearest_none zero h = refl
  nearest_none (suc k) h = rw (ne_eqb (get_or xs k 0 + 1) l (h k (omega arith) (omega arith))) (nearest_none k (λ j a b. h j a (omega arith)))

  pub nearest_at : (n i : ℕ) → i < n → get_or xs i 0 + 1 ≡ l → None_in (i + 1) n → nearest xs l n ≡ Some i
  nearest_at zero i b e h = absurd (omega arith)
  nearest_at (suc k) i b e h =
      ⊎_elim
      (λ (c : i < k). rw (ne_eqb (get_or xs k 0 + 1) l (h k (omega arith) (omega arith))) (nearest_at k i c e (λ j p q. h j p (omega arith))))
      (λ (c : k ≤ i). let s : i ≡ k = omega arith in rw (sym s, eq-eqb (get_or xs i 0 + 1) l e) refl)
      (cases_lt i k)
