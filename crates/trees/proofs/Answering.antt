-- What is answered about numbers, once the verdict is known and which of them are nodes.
use Rattle.std.proofs.Common.{◌≡◌, ℕ, ◌<◌, List, [], ◌∷◌, find, nat_le, Some, None, Ok, refl, ap, ◌∙◌, Iter, Bor, arith}
use Rattle.std.proofs.lemmas.Bool.{lt-ltb, le-ltb, lt-leb, le-leb}
use Rattle.std.proofs.iter.Yields.{fronts}
use Rattle.std.specs.Iterator.{Yields}
use Rattle.std.specs.Slice.Iter.{iter_rest}
use Rattle.trees.specs.Climbing.{first_missing, unless_missing}

-- the first number that is no node, as a search finds it
pub find_missing : (n : ℕ) (vs : List ℕ) → find (λ v. nat_le n v) vs ≡ first_missing n vs
find_missing n [] = refl
find_missing n (v ∷ vs) = let more = find_missing n vs in grind (arith, lt-ltb, lt-leb, le-ltb, le-leb)

module _ (n : ℕ) where
  pub present : (v : ℕ) (vs : List ℕ) → v < n → first_missing n (v ∷ vs) ≡ first_missing n vs
  present v vs h = rw (lt-ltb v n h) refl

  -- where no number of a list is missing, the first is a node, and none of the others is missing
  pub split : (v : ℕ) (vs : List ℕ) → first_missing n (v ∷ vs) ≡ None → (v < n) × (first_missing n vs ≡ None)
  split v vs e = (grind (arith, le-ltb), grind (arith, le-ltb))

  pub none_missing : (vs : List ℕ) → Ok (tt {0}) ≡ unless_missing (first_missing n vs) (tt {0}) → first_missing n vs ≡ None
  none_missing vs e = grind arith

  -- the next item of a slice of nodes is a node
  pub next_node :
      (s t u : Iter ℕ) (xs : List (Bor ℕ)) (x : Bor ℕ) → first_missing n (iter_rest s) ≡ None → Yields fronts s xs t → fronts t (Some x) u → x.now < n
  next_node s t u [] x e y f =
      let h : iter_rest s ≡ x.now ∷ iter_rest u = ap iter_rest y ∙ f in
      (split x.now (iter_rest u) (rw h at e)).0
  next_node s t u (z ∷ xs) x e y f =
      let h : iter_rest s ≡ z.now ∷ iter_rest y.0 = y.1 in
      next_node y.0 t u xs x (split z.now (iter_rest y.0) (rw h at e)).1 y.2 f
