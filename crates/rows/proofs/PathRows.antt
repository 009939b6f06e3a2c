-- The turns of `lights` and `path_words`.
use Rattle.std.proofs.Common.{◌≡◌, ℕ, ◌+◌, ◌-◌, ◌<◌, ◌≤◌, true, List, map, length, Some, Option, sym, refl, ap, ◌∙◌, subst, ⊎_elim, arith}
use Rattle.std.proofs.lemmas.Bool.{cases_eq, cases_lt, cases_Bool}
use Rattle.labels.specs.Sizes.{heavy, is_heavy, light_size}
use Rattle.labels.specs.Paths.{top, place, heavy_path}
use Rattle.labels.specs.Labels.{path_weights, path_word}
use Rattle.labels.proofs.Weighing.{accepted}
use Rattle.labels.proofs.Sizes.{heavy_child, heavy_is, heavy_test, size_child}
use Rattle.labels.proofs.Paths.{top_none, top_heavy, top_light, top_le}
use Rattle.codes.specs.declared.word.Word.{Word}
use Rattle.codes.specs.Weighing.{Weights}
use Rattle.rows.specs.Chains.{at, chain, Held, Stored}
use Rattle.rows.proofs.Walks.{held_same}
use Rattle.rows.specs.Rows.{parents_in, Rooted, SizeRow, HeavyRow, LightRow}
use Rattle.rows.proofs.Trees.{tree, parent_is, map_same, on_path, top_top, at_place, heavy_none_at, heavy_some_at, heavy_up, chain_path}

-- the words of the paths that begin before t are stored
abbrev pub PathTo : (List ℕ → ℕ → Word) → List ℕ → ℕ → List ℕ → List ℕ → List ℕ → Type 0
PathTo f up t high low len = (u : ℕ) → u < length up → top (parents_in up) (length up) u < t → Held (path_word (parents_in up) (length up) f u) high low len u

module _ (up size_row row : List ℕ) (r : Rooted up) (S : SizeRow up size_row) (H : HeavyRow up row) (even : length row ≡ length up) (v : ℕ) (l : v < length up) where
  pub light_leaf : at row v ≡ 0 → at size_row v ≡ light_size (parents_in up) (length up) v
  unfolding light_size
  light_leaf z = S v l ∙ rw (heavy_none_at up row r H even v l z) (omega arith)

  pub light_rest_fits : (at row v ≡ 0 → ⊥) → at size_row (at row v) ≤ at size_row v
  light_rest_fits ne =
      let e = heavy_some_at up row r H even v l ne in
      let a = S v l in
      let b = S (at row v) (heavy_up up row r H even v l ne).1 in
      let s = size_child (tree up r) v (at row v) (heavy_child (tree up r) v (at row v) e) in
      omega arith

  pub light_rest_is : (at row v ≡ 0 → ⊥) → at size_row v - at size_row (at row v) ≡ light_size (parents_in up) (length up) v
  unfolding light_size
  light_rest_is ne =
      let a = S v l in
      let b = S (at row v) (heavy_up up row r H even v l ne).1 in
      rw (heavy_some_at up row r H even v l ne, a, b) refl

module _ (up row : List ℕ) (r : Rooted up) (H : HeavyRow up row) (even : length row ≡ length up) where
  pub sure : (t : ℕ) → 1 ≤ t → t < length up → is_heavy (parents_in up) (length up) (at up t) t ≡ true → at row (at up t) ≡ t
  sure t a l y =
      let b = r.below t a l in
      let e = heavy_is (tree up r) (at up t) t y in
      ⊎_elim
      (λ z. let x = heavy_none_at up row r H even (at up t) (omega arith) z in let w : ◌≡◌ {A = ℕ} 0 1 = cc in absurd (omega arith))
      (λ ne. let x = heavy_some_at up row r H even (at up t) (omega arith) ne in cc)
      (cases_eq (at row (at up t)) 0)

  -- a node that is no heavy child begins a path
  pub begins : (t : ℕ) → t < length up → ((1 ≤ t) × (at row (at up t) ≡ t) → ⊥) → top (parents_in up) (length up) t ≡ t
  begins t l light =
      ⊎_elim
      (λ z. (top_none (tree up r) t (rw z (tree up r).root)).0)
      (λ nz. let pos : 1 ≤ t = omega arith in
      ⊎_elim
      (λ y. absurd (light (pos, sure t pos l y)))
      (λ y. (top_light (tree up r) t (at up t) (parent_is up t pos l) y).0)
      (cases_Bool (is_heavy (parents_in up) (length up) (at up t) t)))
      (cases_eq t 0)

module _ (up row light : List ℕ) (r : Rooted up) (H : HeavyRow up row) (even : length row ≡ length up) (L : LightRow up light) where
  weights : (t : ℕ) → t < length up
      → map (at light) (chain row t) ≡ path_weights (parents_in up) (length up) t
  unfolding path_weights
  weights t l =
      ap (map (at light)) (chain_path up row r H even t l)
      ∙ map_same (at light) (light_size (parents_in up) (length up)) (heavy_path (parents_in up) (length up) t)
      (λ i h. L (at (heavy_path (parents_in up) (length up) t) i) (on_path (tree up r) t i l h).0)

  pub path_fine : (t : ℕ) → t < length up → Weights (map (at light) (chain row t))
  path_fine t l = subst Weights (sym (weights t l)) ((accepted (tree up r)).paths.accepted t l)

  module _ (f : List ℕ → ℕ → Word) (t : ℕ) (l : t < length up) where
    pub path_skip : (a b c : List ℕ) → 1 ≤ t → at row (at up t) ≡ t → PathTo f up t a b c → PathTo f up (t + 1) a b c
    path_skip a b c pos e inv u lu h =
        ⊎_elim (λ k. inv u lu k)
        (λ k. let same : top (parents_in up) (length up) u ≡ t = omega arith in
        let bl = r.below t pos l in
        let ne : at row (at up t) ≡ 0 → ⊥ = λ z. omega arith in
        let x : heavy (parents_in up) (length up) (at up t) ≡ Some t = heavy_some_at up row r H even (at up t) (omega arith) ne ∙ ap {B = Option ℕ} Some e in
        let hv = (top_heavy (tree up r) t (at up t) (parent_is up t pos l) (heavy_test (tree up r) (at up t) t x)).0 in
        let tt' = top_top (tree up r) u in
        let le = top_le (tree up r) (at up t) in
        let q = ap (top (parents_in up) (length up)) same in
        absurd (omega arith))
        (cases_lt (top (parents_in up) (length up) u) t)

    pub path_turn : (a b c a' b' c' : List ℕ) → top (parents_in up) (length up) t ≡ t
        → Stored (f (map (at light) (chain row t))) (chain row t) a b c a' b' c' → PathTo f up t a b c → PathTo f up (t + 1) a' b' c'
    unfolding path_word
    path_turn a b c a' b' c' begin S inv u lu h =
        ⊎_elim
        (λ k. held_same (path_word (parents_in up) (length up) f u) a b c a' b' c' u
        (S.kept u (λ i m e.
        let m' : i < length (heavy_path (parents_in up) (length up) t) = rw (chain_path up row r H even t l) at m in
        let o = (on_path (tree up r) t i l m').1 in
        let e' : at (heavy_path (parents_in up) (length up) t) i ≡ u = rw (chain_path up row r H even t l) at e in
        let q = ap (top (parents_in up) (length up)) e' in
        omega arith))
        (inv u lu k))
        (λ k. let same : top (parents_in up) (length up) u ≡ t = omega arith in mine u lu same)
        (cases_lt (top (parents_in up) (length up) u) t)
      where
        mine : (u : ℕ) → u < length up → top (parents_in up) (length up) u ≡ t → Held (path_word (parents_in up) (length up) f u) a' b' c' u
        mine u lu same =
            let p = at_place (tree up r) u lu in
            let cp = chain_path up row r H even t l in
            let i : ℕ = place (parents_in up) (length up) u in
            let inside : place (parents_in up) (length up) u < length (chain row t) = rw cp (rw same at p.0) in
            let here : at (chain row t) (place (parents_in up) (length up) u) ≡ u = rw cp (rw same at p.1) in
            let got = S.held (place (parents_in up) (length up) u) inside in
            subst (λ (x : ℕ). Held (f (path_weights (parents_in up) (length up) x) (place (parents_in up) (length up) u)) a' b' c' u) (sym same)
            (subst (λ (ws : List ℕ). Held (f ws (place (parents_in up) (length up) u)) a' b' c' u) (weights t l) (subst (λ (x : ℕ). Held (f (map (at light) (chain row t)) (place (parents_in up) (length up) u)) a' b' c' x) here got))
