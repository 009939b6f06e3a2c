-- The tree that a row of parents is, and what stands on a path.
use Rattle.std.proofs.Common.{◌≡◌, ℕ, zero, suc, ◌+◌, ◌<◌, ◌≤◌, List, [], ◌∷◌, map, length, Some, None, Option, sym, refl, ap, ◌∙◌, ap₂, ⊎_elim, arith}
use Rattle.std.proofs.lemmas.Bool.{cases_eq, eq-eqb, ne_eqb, lt-ltb, le-ltb}
use Rattle.trees.specs.Tree.{Tree}
use Rattle.trees.specs.Above.{opt}
use Rattle.labels.specs.Sizes.{heavy}
use Rattle.labels.specs.Paths.{top, place, path_from, heavy_path}
use Rattle.trees.proofs.Upward.{child}
use Rattle.labels.proofs.Sizes.{heavy_child, heavy_test}
use Rattle.labels.proofs.Paths.{top_none, top_heavy, top_light, cases_in, placed, place_less}
use Rattle.rows.specs.Chains.{at, Rising, run, chain}
use Rattle.rows.specs.Rows.{parents_in, Rooted, HeavyRow}

pub parent_is : (up : List ℕ) (v : ℕ) → 1 ≤ v → v < length up → parents_in up v ≡ Some (at up v)
unfolding parents_in
parent_is up v a b = let z : v ≡ 0 → ⊥ = λ e. omega arith in rw (ne_eqb v 0 z, lt-ltb v (length up) b) refl

parent_first : (up : List ℕ) → parents_in up 0 ≡ None
unfolding parents_in
parent_first up = refl

parent_past : (up : List ℕ) (v : ℕ) → 1 ≤ length up → length up ≤ v → parents_in up v ≡ None
unfolding parents_in
parent_past up v y h = let z : v ≡ 0 → ⊥ = λ e. omega arith in rw (ne_eqb v 0 z, le-ltb v (length up) h) refl

pub tree : (up : List ℕ) → Rooted up → Tree (parents_in up) (length up)
tree up r =
    record {
      some_node = r.any;
      few = r.few;
      root = parent_first up;
      inner = λ v a b. (at up v, parent_is up v a b, r.below v a b);
      outer = λ v h. parent_past up v r.any h;
    }

pub map_same : (f g : ℕ → ℕ) (xs : List ℕ) → ((i : ℕ) → i < length xs → f (at xs i) ≡ g (at xs i)) → map f xs ≡ map g xs
map_same f g [] h = refl
map_same f g (x ∷ xs) h = ap₂ {C = List ℕ} (λ y ys. y ∷ ys) (h 0 (omega arith)) (map_same f g xs (λ i l. h (suc i) (omega arith)))

module _ {parent : ℕ → Option ℕ} {n : ℕ} (T : Tree parent n) where
  on_from : (k c i : ℕ) → c < n → i < length (path_from parent n k c)
      → (at (path_from parent n k c) i < n) × (top parent n (at (path_from parent n k c) i) ≡ top parent n c) × (place parent n (at (path_from parent n k c) i) ≡ place parent n c + i)
  unfolding path_from
  on_from zero c zero l h = (l, refl, omega arith)
  on_from zero c (suc i) l h = absurd (omega arith)
  on_from (suc k) c zero l h = (l, refl, omega arith)
  on_from (suc k) c (suc i) l h = go (λ d m. on_from k d i m) (heavy parent n c) refl h
    where
      go :
          ((d : ℕ) → d < n → i < length (path_from parent n k d)
          → (at (path_from parent n k d) i < n) × (top parent n (at (path_from parent n k d) i) ≡ top parent n d) × (place parent n (at (path_from parent n k d) i) ≡ place parent n d + i))
          → (o : Option ℕ) → heavy parent n c ≡ o → suc i < length (c ∷ opt [] (λ d. path_from parent n k d) o)
          → (at (opt [] (λ d. path_from parent n k d) o) i < n) × (top parent n (at (opt [] (λ d. path_from parent n k d) o) i) ≡ top parent n c) × (place parent n (at (opt [] (λ d. path_from parent n k d) o) i) ≡ place parent n c + suc i)
      go ih None e h = absurd (omega arith)
      go ih (Some d) e h =
          let q = heavy_child T c d e in
          let a = top_heavy T d c q (heavy_test T c d e) in
          let x = ih d (child T d c q).1 (omega arith) in
          (x.0, x.1 ∙ a.0, omega (arith, x.2, a.1))

  -- what stands on a path: nodes of it, place by place
  pub on_path : (c i : ℕ) → c < n → i < length (heavy_path parent n c)
      → (at (heavy_path parent n c) i < n) × (top parent n (at (heavy_path parent n c) i) ≡ top parent n c) × (place parent n (at (heavy_path parent n c) i) ≡ place parent n c + i)
  unfolding heavy_path
  on_path c i l h = on_from n c i l h

  pub top_top : (v : ℕ) → top parent n (top parent n v) ≡ top parent n v
  top_top =
      cases_in T (λ v. top parent n (top parent n v) ≡ top parent n v)
      (λ v e. ap (top parent n) (top_none T v e).0)
      (λ v p e t ih. let a = (top_heavy T v p e t).0 in ap (top parent n) a ∙ ih ∙ sym a)
      (λ v p e t ih. ap (top parent n) (top_light T v p e t).0)

  -- u stands on its path at its place
  pub at_place : (u : ℕ) → u < n → (place parent n u < length (heavy_path parent n (top parent n u))) × (at (heavy_path parent n (top parent n u)) (place parent n u) ≡ u)
  at_place u l = (place_less T u, placed T u 0)

module _ (up row : List ℕ) (r : Rooted up) (H : HeavyRow up row) (even : length row ≡ length up) where
  pub heavy_none_at : (v : ℕ) → v < length up → at row v ≡ 0 → heavy (parents_in up) (length up) v ≡ None
  heavy_none_at v l z = H v l ∙ rw (eq-eqb (at row v) 0 z) refl

  pub heavy_some_at : (v : ℕ) → v < length up → (at row v ≡ 0 → ⊥) → heavy (parents_in up) (length up) v ≡ Some (at row v)
  heavy_some_at v l ne = H v l ∙ rw (ne_eqb (at row v) 0 ne) refl

  pub heavy_up : (v : ℕ) → v < length up → (at row v ≡ 0 → ⊥) → (v < at row v) × (at row v < length up)
  heavy_up v l ne = child (tree up r) (at row v) v (heavy_child (tree up r) v (at row v) (heavy_some_at v l ne))

  pub heavy_rising : Rising row
  heavy_rising c l ne = let u = heavy_up c (omega arith) ne in (u.0, omega (arith, u.1))

  run_path : (k c : ℕ) → c < length up → run k row c ≡ path_from (parents_in up) (length up) k c
  unfolding run path_from
  run_path zero c l = refl
  run_path (suc k) c l =
      ⊎_elim (λ z. rw (eq-eqb (at row c) 0 z, heavy_none_at c l z) refl)
      (λ ne. rw (ne_eqb (at row c) 0 ne, heavy_some_at c l ne) (ap {B = List ℕ} (λ xs. c ∷ xs) (run_path k (at row c) (heavy_up c l ne).1)))
      (cases_eq (at row c) 0)

  pub chain_path : (c : ℕ) → c < length up → chain row c ≡ heavy_path (parents_in up) (length up) c
  unfolding heavy_path
  chain_path c l = ap (λ (k : ℕ). run k row c) even ∙ run_path (length up) c l
