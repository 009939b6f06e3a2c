-- The turns of `branch_words`.
use Rattle.std.proofs.Common.{◌≡◌, ℕ, zero, suc, ◌+◌, ◌<◌, Bool, true, List, [], ◌∷◌, ◌++◌, map, length, sym, refl, ap, ◌∙◌, subst, ⊎_elim, arith, length-append}
use Rattle.std.proofs.Math.ListN.{get_or-append}
use Rattle.std.proofs.Math.Seq.{get_or-append_seam}
use Rattle.std.proofs.lemmas.Bool.{cases_lt, cases_Bool, eq-eqb, ne_eqb}
use Rattle.labels.specs.Sizes.{those, size, is_light, light_children}
use Rattle.labels.specs.Labels.{branch_weights, branch_word, turn}
use Rattle.labels.proofs.Weighing.{accepted}
use Rattle.trees.proofs.Upward.{child}
use Rattle.labels.proofs.Sizes.{light_child}
use Rattle.labels.proofs.Those.{those_at, those_less}
use Rattle.codes.specs.declared.word.Word.{Word}
use Rattle.codes.specs.Weighing.{Weights}
use Rattle.rows.specs.Chains.{at, run, chain, Held, Stored}
use Rattle.rows.proofs.Walks.{held_same}
use Rattle.rows.specs.Rows.{parents_in, Rooted, SizeRow, LightLinks}
use Rattle.rows.proofs.Trees.{tree, map_same}

pub run_some : (k : ℕ) (next : List ℕ) (c : ℕ) → 0 < length (run k next c)
unfolding run
run_some zero next c = omega arith
run_some (suc k) next c = omega arith

run_first : (k : ℕ) (next : List ℕ) (c : ℕ) → at (run k next c) 0 ≡ c
unfolding run
run_first zero next c = refl
run_first (suc k) next c = refl

-- whatever is among those that pass a test is small and passes
pub those_in : (k : ℕ) (t : ℕ → Bool) (i : ℕ) → i < length (those k t) → (at (those k t) i < k) × (t (at (those k t) i) ≡ true)
unfolding those
those_in zero t i h = absurd (omega arith)
those_in (suc k) t i h =
    let ih = those_in k t i in
    ⊎_elim
    (λ e. let n : length (those k t ++ (k ∷ [])) ≡ length (those k t) + 1 = length-append (those k t) (k ∷ []) in
    let h' : i < length (those k t ++ (k ∷ [])) = rw e at h in
    rw e
    (⊎_elim
    (λ l. let x = ih l in let q = get_or-append (those k t) (k ∷ []) 0 i l in (omega (arith, x.0), ap t q ∙ x.1))
    (λ l. let s : i ≡ length (those k t) = omega arith in let q : at (those k t ++ (k ∷ [])) i ≡ k = rw s (get_or-append_seam (those k t) k [] 0) in (omega arith, ap t q ∙ e))
    (cases_lt i (length (those k t)))))
    (λ e. let x = ih (rw e at h) in rw e (omega (arith, x.0), x.1))
    (cases_Bool (t k))

-- the words of the light children of the nodes before p are stored
abbrev pub BranchTo : (List ℕ → ℕ → Word) → List ℕ → ℕ → List ℕ → List ℕ → List ℕ → Type 0
BranchTo f up p high low len = (q c : ℕ) → q < p → is_light (parents_in up) (length up) q c ≡ true → Held (branch_word (parents_in up) (length up) f q c) high low len c

module _ (up size_row first next : List ℕ) (r : Rooted up) (S : SizeRow up size_row) (L : LightLinks up first next) (p : ℕ) (lp : p < length up) where
  pub none_here : at first p ≡ 0 → those (length up) (is_light (parents_in up) (length up) p) ≡ []
  unfolding light_children
  none_here z = sym (L p lp) ∙ rw (eq-eqb (at first p) 0 z) refl

  some_here : (at first p ≡ 0 → ⊥) → chain next (at first p) ≡ those (length up) (is_light (parents_in up) (length up) p)
  unfolding light_children
  some_here ne = sym (rw (ne_eqb (at first p) 0 ne) refl) ∙ L p lp

  weights : (at first p ≡ 0 → ⊥)
      → map (at size_row) (chain next (at first p)) ≡ branch_weights (parents_in up) (length up) p
  unfolding branch_weights light_children
  weights ne =
      ap (map (at size_row)) (some_here ne)
      ∙ map_same (at size_row) (size (parents_in up) (length up)) (those (length up) (is_light (parents_in up) (length up) p))
      (λ i h. S _ (those_in (length up) (is_light (parents_in up) (length up) p) i h).0)

  pub branch_in : (at first p ≡ 0 → ⊥) → at first p < length up
  branch_in ne =
      let any' : 0 < length (those (length up) (is_light (parents_in up) (length up) p)) = rw (some_here ne) at (run_some (length next) next (at first p)) in
      let i = those_in (length up) (is_light (parents_in up) (length up) p) 0 any' in
      let h : at (those (length up) (is_light (parents_in up) (length up) p)) 0 ≡ at first p = ap (λ xs. at xs 0) (sym (some_here ne)) ∙ run_first (length next) next (at first p) in
      omega (arith, i.0)

  pub branch_fine : (at first p ≡ 0 → ⊥) → Weights (map (at size_row) (chain next (at first p)))
  branch_fine ne =
      let any' : 0 < length (those (length up) (is_light (parents_in up) (length up) p)) = rw (some_here ne) at (run_some (length next) next (at first p)) in
      subst Weights (sym (weights ne)) ((accepted (tree up r)).branches.accepted p _ (those_in (length up) (is_light (parents_in up) (length up) p) 0 any').1)

  module _ (f : List ℕ → ℕ → Word) where
    pub branch_skip : (a b c : List ℕ) → at first p ≡ 0 → BranchTo f up p a b c → BranchTo f up (p + 1) a b c
    branch_skip a b c z inv q k h t =
        ⊎_elim (λ l. inv q k l t)
        (λ l. let s : q ≡ p = omega arith in
        let t' : is_light (parents_in up) (length up) p k ≡ true = rw s at t in
        let in_n = (child (tree up r) k p (light_child (tree up r) p k t')).1 in
        let w = those_less (length up) k (is_light (parents_in up) (length up) p) t' in_n in
        let e = ap length (none_here z) in
        absurd (omega (arith, w)))
        (cases_lt q p)

    pub branch_turn : (a b c a' b' c' : List ℕ) → (at first p ≡ 0 → ⊥)
        → Stored (f (map (at size_row) (chain next (at first p)))) (chain next (at first p)) a b c a' b' c' → BranchTo f up p a b c → BranchTo f up (p + 1) a' b' c'
    unfolding branch_word turn
    branch_turn a b c a' b' c' ne X inv q k h t =
        ⊎_elim
        (λ l. held_same (branch_word (parents_in up) (length up) f q k) a b c a' b' c' k
        (X.kept k (λ i m e.
        let m' : i < length (those (length up) (is_light (parents_in up) (length up) p)) = rw (some_here ne) at m in
        let e' : at (those (length up) (is_light (parents_in up) (length up) p)) i ≡ k = rw (some_here ne) at e in
        let y : is_light (parents_in up) (length up) p k ≡ true = rw e' at (those_in (length up) (is_light (parents_in up) (length up) p) i m').1 in
        let pk = light_child (tree up r) p k y in
        let qk = light_child (tree up r) q k t in
        let s : p ≡ q = cc in
        omega arith))
        (inv q k l t))
        (λ l. let s : q ≡ p = omega arith in rw s (mine (rw s at t)))
        (cases_lt q p)
      where
        mine : is_light (parents_in up) (length up) p k ≡ true → Held (branch_word (parents_in up) (length up) f p k) a' b' c' k
        mine t' =
            let in_n = (child (tree up r) k p (light_child (tree up r) p k t')).1 in
            let less = those_less (length up) k (is_light (parents_in up) (length up) p) t' in_n in
            let here : at (chain next (at first p)) (length (those k (is_light (parents_in up) (length up) p))) ≡ k = rw (some_here ne) (those_at (length up) k 0 (is_light (parents_in up) (length up) p) t' in_n) in
            let inside : length (those k (is_light (parents_in up) (length up) p)) < length (chain next (at first p)) = rw (some_here ne) less in
            let got = X.held (length (those k (is_light (parents_in up) (length up) p))) inside in
            subst (λ (ws : List ℕ). Held (f ws (length (those k (is_light (parents_in up) (length up) p)))) a' b' c' k) (weights ne)
            (subst (λ (x : ℕ). Held (f (map (at size_row) (chain next (at first p))) (length (those k (is_light (parents_in up) (length up) p)))) a' b' c' x) here got)
