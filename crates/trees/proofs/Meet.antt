-- The deepest node at or above some nodes.
use Rattle.std.proofs.Common.{◌≡◌, ℕ, ◌<◌, Bool, true, false, cond, List, [], ◌∷◌, ◌++◌, Some, None, Ok, Option, sym, refl, ap, ◌∙◌, ⊎_elim, arith}
use Rattle.std.proofs.lemmas.Bool.{both_ways}
use Rattle.trees.specs.Tree.{Tree}
use Rattle.trees.specs.Above.{AtOrAbove, here, up, is_above}
use Rattle.trees.specs.Deepest.{Deepest, meet_of, meet_all}
use Rattle.trees.specs.Climbing.{first_missing, unless_missing}
use Rattle.trees.proofs.Answering.{split, none_missing}
use Rattle.trees.proofs.Upward.{child, upward, orphan, rise_none, rise_some}
use Rattle.trees.proofs.Above.{through, here_or_up, smaller, both, not_above, above_up, passes, passed, root_above}

-- one node more
pub meet_push : (parent : ℕ → Option ℕ) (u : ℕ) (vs : List ℕ) (v : ℕ) → meet_all parent u (vs ++ (v ∷ [])) ≡ meet_of parent (meet_all parent u vs) v
unfolding meet_all
meet_push parent u [] v = refl
meet_push parent u (w ∷ vs) v = meet_push parent (meet_of parent u w) vs v

module _ {parent : ℕ → Option ℕ} {n : ℕ} (T : Tree parent n) where
  meet_none : (u v : ℕ) → parent u ≡ None → meet_of parent u v ≡ u
  unfolding meet_of
  meet_none u v e = rise_none T _ _ u e

  meet_some : (u v p : ℕ) → parent u ≡ Some p → meet_of parent u v ≡ cond (is_above parent u v) u (meet_of parent p v)
  unfolding meet_of
  meet_some u v p e = rise_some T _ _ u p e

  pub meet_same : (u : ℕ) → meet_of parent u u ≡ u
  meet_same u = go (parent u) refl
    where
      go : (o : Option ℕ) → parent u ≡ o → meet_of parent u u ≡ u
      go None e = meet_none u u e
      go (Some p) e = meet_some u u p e ∙ ap (λ t. cond t u (meet_of parent p u)) (passes T here)

  -- of two nodes the one with the greater number may climb
  pub meet_left : (u v p : ℕ) → v < u → parent u ≡ Some p → meet_of parent u v ≡ meet_of parent p v
  meet_left u v p h e = meet_some u v p e ∙ ap (λ t. cond t u (meet_of parent p v)) (not_above T u v h)

  pub meet_right : (v q : ℕ) → parent v ≡ Some q → (u : ℕ) → u < v → meet_of parent u v ≡ meet_of parent u q
  meet_right v q f =
      upward T (λ u. u < v → meet_of parent u v ≡ meet_of parent u q)
      (λ u e h. meet_none u v e ∙ sym (meet_none u q e))
      (λ u p e ih h.
      let l = (child T u p e).0 in
      meet_some u v p e
      ∙ (ap (λ t. cond t u (meet_of parent p v)) (above_up T u v q h f)
      ∙ (ap (λ d. cond (is_above parent u q) u d) (ih (omega arith))
      ∙ sym (meet_some u q p e))))

  alone : (u : ℕ) → Deepest parent (u ∷ []) u
  alone u = record { above = (here, tt); lowest = λ e h. h.0 }

  -- where u stands at or above v it is the deepest
  itself : (u v : ℕ) → AtOrAbove parent u v → Deepest parent (u ∷ v ∷ []) u
  itself u v h = record { above = (here, (h, tt)); lowest = λ e k. k.0 }

  -- where it does not, its parent serves as well
  from_parent : (u v p : ℕ) → parent u ≡ Some p → is_above parent u v ≡ false → (d : ℕ) → Deepest parent (p ∷ v ∷ []) d → Deepest parent (u ∷ v ∷ []) d
  from_parent u v p e f d m =
      record {
        above = (up e m.above.0, m.above.1);
        lowest = λ x k.
            ⊎_elim (λ s. absurd (both_ways (is_above parent u v) f (passes T (rw s at k.1.0))))
            (λ h. m.lowest x (h, k.1))
            (here_or_up p e k.0);
      }

  pub two : (v : ℕ) → v < n → (u : ℕ) → u < n → Deepest parent (u ∷ v ∷ []) (meet_of parent u v)
  two v hv =
      upward T (λ u. u < n → Deepest parent (u ∷ v ∷ []) (meet_of parent u v))
      (λ u e hu.
      let z : u ≡ 0 = orphan T u hu e in
      let r : AtOrAbove parent u v = rw z (root_above T v hv) in
      rw (meet_none u v e) (itself u v r))
      (λ u p e ih hu.
      let l = (child T u p e).0 in
      let m = ih (omega arith) in
      rw (meet_some u v p e)
      (go u p e (is_above parent u v) refl m))
    where
      go : (u p : ℕ) → parent u ≡ Some p → (b : Bool) → is_above parent u v ≡ b → Deepest parent (p ∷ v ∷ []) (meet_of parent p v) → Deepest parent (u ∷ v ∷ []) (cond b u (meet_of parent p v))
      go u p e true t m = itself u v (passed T u v t)
      go u p e false f m = from_parent u v p e f (meet_of parent p v) m

  -- what is at or above a node is one
  pub node : {a v : ℕ} → v < n → AtOrAbove parent a v → a < n
  node h k = let l = smaller T k in omega arith

  pub several : (u : ℕ) (vs : List ℕ) → u < n → first_missing n vs ≡ None → Deepest parent (u ∷ vs) (meet_all parent u vs)
  unfolding meet_all
  several u [] hu e = alone u
  several u (v ∷ vs) hu e =
      let s = split n v vs e in
      let m = two v s.0 u hu in
      let k = several (meet_of parent u v) vs (node hu m.above.0) s.1 in
      record {
        above = (through k.above.0 m.above.0, (through k.above.0 m.above.1.0, k.above.1));
        lowest = λ x h. k.lowest x (m.lowest x (h.0, (h.1.0, tt)), h.1.1);
      }

  -- what the checks of a node and of others, and a climb from one to the next, make of a result
  pub deepest :
      (u : ℕ) (vs : List ℕ) (d : ℕ) → Ok (tt {0}) ≡ unless_missing (first_missing n (u ∷ [])) (tt {0}) → Ok (tt {0}) ≡ unless_missing (first_missing n vs) (tt {0})
      → d ≡ meet_all parent u vs → Deepest parent (u ∷ vs) d
  deepest u vs d a b e = rw e (several u vs (split n u [] (none_missing n (u ∷ []) a)).0 (none_missing n vs b))

  pub one : (vs : List ℕ) (d e : ℕ) → Deepest parent vs d → Deepest parent vs e → d ≡ e
  one vs d e h k = both T (k.lowest d h.above) (h.lowest e k.above)
