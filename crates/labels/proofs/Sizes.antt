-- Sizes, heavy children and light sizes.
use Rattle.std.proofs.Common.{◌≡◌, ℕ, zero, suc, ◌+◌, ◌*◌, ◌<◌, ◌≤◌, Bool, true, false, cond, not, ◌&&◌, eqb, ltb, ◌⊎◌, Some, None, Option, sym, refl, ap, ◌∙◌, inl, inr, ⊎_elim, arith}
use Rattle.std.proofs.lemmas.Bool.{eqb-true, eq-eqb, ne_eqb, cases_Bool, both_ways, cases_order, cases_lt, ltb-true, ltb-false, and_parts, not-true}
use Rattle.trees.specs.Tree.{Tree}
use Rattle.trees.specs.Above.{opt, is_above}
use Rattle.trees.proofs.Upward.{child, upward}
use Rattle.trees.proofs.Above.{above_none, above_some, smaller, passed, passes, root_above}
use Rattle.labels.specs.Sizes.{sum_to, is_child, size, better, heavy_to, heavy, is_heavy, is_light, light_size}
use Rattle.labels.specs.Meanings.{SizesMean, HeavyMeans}
use Rattle.labels.proofs.Sums.{sum_ext, sum_zero, sum_ones, sum_few, sum_add, sum_swap, sum_cond, sum_one, sum_single, bit_le, cond_add, bits_or}

module _ {parent : ℕ → Option ℕ} {n : ℕ} (T : Tree parent n) where
  -- 1 where v is at or above w
  on : ℕ → ℕ → ℕ
  on v w = cond (is_above parent v w) 1 0

  pub child_is : (p c : ℕ) → is_child parent p c ≡ true → parent c ≡ Some p
  unfolding is_child
  child_is p c h = go (parent c) refl h
    where
      go : (o : Option ℕ) → parent c ≡ o → opt false (λ q. eqb p q) o ≡ true → parent c ≡ Some p
      go None e h = let z = both_ways false refl h in absurd z
      go (Some q) e h = let s : p ≡ q = eqb-true p q h in e ∙ ap {B = Option ℕ} Some (sym s)

  pub child_test : (p c : ℕ) → parent c ≡ Some p → is_child parent p c ≡ true
  unfolding is_child
  child_test p c e = rw e (eq-eqb p p refl)

  on_none : (v w : ℕ) → parent w ≡ None → on v w ≡ cond (eqb v w) 1 0
  unfolding on
  on_none v w e = rw (above_none T v w e) refl

  on_some : (v w p : ℕ) → parent w ≡ Some p → on v w ≡ cond (eqb v w) 1 0 + on v p
  unfolding on
  on_some v w p e =
      rw (above_some T v w p e)
      (bits_or (eqb v w) (is_above parent v p)
      (λ s t. let a = eqb-true v w s in let b = smaller T (passed T v p t) in let l = (child T w p e).0 in omega arith))

  -- a node v is at or above w: it is w, or one of its children is
  on_parts : (v w : ℕ) → w < n → on v w ≡ cond (eqb v w) 1 0 + sum_to n (λ c. cond (is_child parent v c) (on c w) 0)
  on_parts v =
      upward T (λ w. w < n → on v w ≡ cond (eqb v w) 1 0 + sum_to n (λ c. cond (is_child parent v c) (on c w) 0)) base step
    where
      base : (w : ℕ) → parent w ≡ None → w < n → on v w ≡ cond (eqb v w) 1 0 + sum_to n (λ c. cond (is_child parent v c) (on c w) 0)
      base w e h =
          let z = sum_zero n (λ c. cond (is_child parent v c) (on c w) 0) none_here in
          let a = on_none v w e in
          omega arith
        where
          none_here : (c : ℕ) → c < n → cond (is_child parent v c) (on c w) 0 ≡ 0
          none_here c l =
              ⊎_elim
              (λ t.
              let pc : parent c ≡ Some v = child_is v c t in
              let ne : eqb c w ≡ false = ne_eqb c w (λ s. let pc' : parent w ≡ Some v = rw s at pc in let z : ◌≡◌ {A = ℕ} 0 1 = cc in omega arith) in
              rw (t, on_none c w e, ne) refl)
              (λ t. rw t refl)
              (cases_Bool (is_child parent v c))

      step :
          (w p : ℕ) → parent w ≡ Some p
          → (p < n → on v p ≡ cond (eqb v p) 1 0 + sum_to n (λ c. cond (is_child parent v c) (on c p) 0))
          → w < n
          → on v w ≡ cond (eqb v w) 1 0 + sum_to n (λ c. cond (is_child parent v c) (on c w) 0)
      step w p e ih h =
          let l = (child T w p e).0 in
          let i = ih (omega arith) in
          let a = on_some v w p e in
          let split_up : sum_to n (λ c. cond (is_child parent v c) (on c w) 0)
          ≡ sum_to n (λ c. cond (is_child parent v c) (cond (eqb c w) 1 0) 0 + cond (is_child parent v c) (on c p) 0) =
          sum_ext n _ _ (λ c l. rw (on_some c w p e) (cond_add (is_child parent v c) (cond (eqb c w) 1 0) (on c p))) in
          let b = sum_add n (λ c. cond (is_child parent v c) (cond (eqb c w) 1 0) 0) (λ c. cond (is_child parent v c) (on c p) 0) in
          let one : sum_to n (λ c. cond (is_child parent v c) (cond (eqb c w) 1 0) 0) ≡ cond (is_child parent v w) (cond (eqb w w) 1 0) 0 =
          sum_single n w (λ c. cond (is_child parent v c) (cond (eqb c w) 1 0) 0) h (λ c l ne. rw (ne_eqb c w ne) (cond_zero (is_child parent v c))) in
          let ww : cond {A = ℕ} (is_child parent v w) (cond (eqb w w) 1 0) 0 ≡ cond (eqb v p) 1 0 = rw (eq-eqb w w refl, tested) refl in
          omega arith
        where
          cond_zero : (b : Bool) → cond {A = ℕ} b 0 0 ≡ 0
          cond_zero true = refl
          cond_zero false = refl

          tested : is_child parent v w ≡ eqb v p
          tested = unfold is_child in rw e refl

  pub size_parts : (v : ℕ) → v < n → size parent n v ≡ 1 + sum_to n (λ c. cond (is_child parent v c) (size parent n c) 0)
  unfolding size on
  size_parts v h =
      let a = sum_ext n (on v) (λ w. cond (eqb v w) 1 0 + sum_to n (λ c. cond (is_child parent v c) (on c w) 0)) (λ w l. on_parts v w l) in
      let b = sum_add n (λ w. cond (eqb v w) 1 0) (λ w. sum_to n (λ c. cond (is_child parent v c) (on c w) 0)) in
      let c = sum_single n v (λ w. cond (eqb v w) 1 0) h (λ w l ne. rw (ne_eqb v w (λ s. ne (sym s))) refl) in
      let c' : cond {A = ℕ} (eqb v v) 1 0 ≡ 1 = rw (eq-eqb v v refl) refl in
      let d = sum_swap n n (λ w c. cond (is_child parent v c) (on c w) 0) in
      let e = sum_ext n (λ c. sum_to n (λ w. cond (is_child parent v c) (on c w) 0)) (λ c. cond (is_child parent v c) (sum_to n (on c)) 0) (λ c l. sum_cond n (is_child parent v c) (on c)) in
      omega arith

  pub size_whole : size parent n 0 ≡ n
  unfolding size
  size_whole = sum_ones n _ (λ w l. rw (passes T (root_above T w l)) refl)

  pub size_few : (v : ℕ) → size parent n v ≤ n
  unfolding size
  size_few v = sum_few n _ (λ w. bit_le (is_above parent v w))

  pub size_some : (v : ℕ) → v < n → 1 ≤ size parent n v
  size_some v h = let a = size_parts v h in omega arith

  pub size_child : (p c : ℕ) → parent c ≡ Some p → size parent n c + 1 ≤ size parent n p
  size_child p c e =
      let l = child T c p e in
      let a = size_parts p (omega arith) in
      let b = sum_one n c (λ c. cond (is_child parent p c) (size parent n c) 0) l.1 in
      let t : cond (is_child parent p c) (size parent n c) 0 ≡ size parent n c = rw (child_test p c e) refl in
      omega arith

  -- what is known of the heavy child among the numbers below k
  abbrev Best : ℕ → ℕ → Option ℕ → Type 0
  Best k p None = (c : ℕ) → c < k → parent c ≡ Some p → ⊥
  Best k p (Some h) =
      (parent h ≡ Some p) × ((c : ℕ) → c < k → parent c ≡ Some p → size parent n c ≤ size parent n h) × ((c : ℕ) → c < h → parent c ≡ Some p → size parent n c < size parent n h)

  best : (k p : ℕ) → Best k p (heavy_to parent n k p)
  unfolding heavy_to better
  best zero p = λ c l e. omega arith
  best (suc k) p = ⊎_elim (λ t. rw t (new t (heavy_to parent n k p) (best k p))) (λ t. rw t (old t (heavy_to parent n k p) (best k p))) (cases_Bool (is_child parent p k))
    where
      last_or : (c : ℕ) → c < suc k → (c ≡ k) ⊎ (c < k)
      last_or c l = ⊎_elim (λ s. inl s) (⊎_elim (λ s. inr s) (λ s. absurd (omega arith))) (cases_order c k)

      new : is_child parent p k ≡ true → (o : Option ℕ) → Best k p o → Best (suc k) p (better parent n k o)
      new t None b = (child_is p k t, λ c l e. ⊎_elim (λ s. rw s (omega arith)) (λ m. absurd (b c m e)) (last_or c l), λ c l e. absurd (b c l e))
      new t (Some h) b =
          ⊎_elim
          (λ g. let q = ltb-true (size parent n h) (size parent n k) g in
          rw g (child_is p k t, λ c l e. ⊎_elim (λ s. rw s (omega arith)) (λ m. let x = b.1 c m e in omega arith) (last_or c l), λ c l e. let x = b.1 c l e in omega arith))
          (λ g. let q = ltb-false (size parent n h) (size parent n k) g in
          rw g (b.0, λ c l e. ⊎_elim (λ s. rw s (omega arith)) (λ m. b.1 c m e) (last_or c l), b.2))
          (cases_Bool (ltb (size parent n h) (size parent n k)))

      no_child : is_child parent p k ≡ false → (c : ℕ) → c ≡ k → parent c ≡ Some p → ⊥
      no_child t c s e = both_ways (is_child parent p k) t (child_test p k (rw s at e))

      old : is_child parent p k ≡ false → (o : Option ℕ) → Best k p o → Best (suc k) p o
      old t None b = λ c l e. ⊎_elim (λ s. no_child t c s e) (λ m. b c m e) (last_or c l)
      old t (Some h) b = (b.0, λ c l e. ⊎_elim (λ s. absurd (no_child t c s e)) (λ m. b.1 c m e) (last_or c l), b.2)

  pub heavy_most : (p h c : ℕ) → heavy parent n p ≡ Some h → parent c ≡ Some p → size parent n c ≤ size parent n h
  unfolding heavy
  heavy_most p h c e f = (rw e at (best n p)).1 c (child T c p f).1 f

  pub heavy_first : (p h c : ℕ) → heavy parent n p ≡ Some h → parent c ≡ Some p → size parent n c ≡ size parent n h → h ≤ c
  unfolding heavy
  heavy_first p h c e f s = ⊎_elim (λ l. let x = (rw e at (best n p)).2 c l f in absurd (omega arith)) (λ l. l) (cases_lt c h)

  pub heavy_none : (p c : ℕ) → heavy parent n p ≡ None → parent c ≡ Some p → ⊥
  unfolding heavy
  heavy_none p c e f = (rw e at (best n p)) c (child T c p f).1 f

  pub heavy_child : (p h : ℕ) → heavy parent n p ≡ Some h → parent h ≡ Some p
  unfolding heavy
  heavy_child p h e = (rw e at (best n p)).0

  pub heavy_is : (p c : ℕ) → is_heavy parent n p c ≡ true → heavy parent n p ≡ Some c
  unfolding is_heavy
  heavy_is p c t = go (heavy parent n p) refl t
    where
      go : (o : Option ℕ) → heavy parent n p ≡ o → opt false (λ h. eqb h c) o ≡ true → heavy parent n p ≡ Some c
      go None e t = absurd (both_ways false refl t)
      go (Some h) e t = e ∙ ap {B = Option ℕ} Some (eqb-true h c t)

  pub heavy_test : (p c : ℕ) → heavy parent n p ≡ Some c → is_heavy parent n p c ≡ true
  unfolding is_heavy
  heavy_test p c e = rw e (eq-eqb c c refl)

  pub light_child : (p c : ℕ) → is_light parent n p c ≡ true → parent c ≡ Some p
  unfolding is_light
  light_child p c t = child_is p c (and_parts (is_child parent p c) (not (is_heavy parent n p c)) t).0

  pub light_not : (p c : ℕ) → is_light parent n p c ≡ true → is_heavy parent n p c ≡ false
  unfolding is_light
  light_not p c t = not-true (is_heavy parent n p c) (and_parts (is_child parent p c) (not (is_heavy parent n p c)) t).1

  pub light_test : (p c : ℕ) → parent c ≡ Some p → is_heavy parent n p c ≡ false → is_light parent n p c ≡ true
  unfolding is_light
  light_test p c e t = rw (child_test p c e, t) refl

  -- children are light, or the heavy one
  child_parts : (p c : ℕ) → cond (is_child parent p c) (size parent n c) 0 ≡ cond (is_light parent n p c) (size parent n c) 0 + cond (is_heavy parent n p c) (size parent n c) 0
  unfolding is_light
  child_parts p c =
      parts (is_child parent p c) (is_heavy parent n p c) (size parent n c) (λ t. child_test p c (heavy_child p c (heavy_is p c t)))
    where
      parts : (b h : Bool) (s : ℕ) → (h ≡ true → b ≡ true) → cond b s 0 ≡ cond (b && not h) s 0 + cond h s 0
      parts true true s f = omega arith
      parts true false s f = omega arith
      parts false true s f = absurd (both_ways false refl (f refl))
      parts false false s f = refl

  heavy_part : (p : ℕ) → sum_to n (λ c. cond (is_heavy parent n p c) (size parent n c) 0) ≡ opt 0 (size parent n) (heavy parent n p)
  unfolding is_heavy
  heavy_part p = go (heavy parent n p) refl
    where
      go : (o : Option ℕ) → heavy parent n p ≡ o → sum_to n (λ c. cond (opt false (λ h. eqb h c) o) (size parent n c) 0) ≡ opt 0 (size parent n) o
      go None e = sum_zero n _ (λ c l. refl)
      go (Some h) e =
          sum_single n h (λ c. cond (eqb h c) (size parent n c) 0) (child T h p (heavy_child p h e)).1 (λ c l ne. rw (ne_eqb h c (λ s. ne (sym s))) refl)
          ∙ rw (eq-eqb h h refl) refl

  -- a size is one, those of the light children, and that of the heavy child
  pub size_split : (p : ℕ) → p < n → size parent n p ≡ 1 + sum_to n (λ c. cond (is_light parent n p c) (size parent n c) 0) + opt 0 (size parent n) (heavy parent n p)
  size_split p l =
      let a = size_parts p l in
      let b = sum_ext n (λ c. cond (is_child parent p c) (size parent n c) 0) (λ c. cond (is_light parent n p c) (size parent n c) 0 + cond (is_heavy parent n p c) (size parent n c) 0) (λ c l. child_parts p c) in
      let c = sum_add n (λ c. cond (is_light parent n p c) (size parent n c) 0) (λ c. cond (is_heavy parent n p c) (size parent n c) 0) in
      let d = heavy_part p in
      omega arith

  pub light_sum : (p : ℕ) → p < n → sum_to n (λ c. cond (is_light parent n p c) (size parent n c) 0) + 1 ≡ light_size parent n p
  unfolding light_size
  light_sum p l = let a = size_split p l in omega arith

  pub light_some : (v : ℕ) → v < n → 1 ≤ light_size parent n v
  light_some v l = let a = light_sum v l in omega arith

  -- the light size and the heavy child's size are the size
  pub light_rest : (v : ℕ) → v < n → light_size parent n v + opt 0 (size parent n) (heavy parent n v) ≡ size parent n v
  unfolding light_size
  light_rest v l = let a = size_split v l in omega arith

  pub light_half : (p c : ℕ) → is_light parent n p c ≡ true → 2 * size parent n c + 1 ≤ size parent n p
  light_half p c t = go (heavy parent n p) refl
    where
      pc : parent c ≡ Some p
      pc = light_child p c t

      go : (o : Option ℕ) → heavy parent n p ≡ o → 2 * size parent n c + 1 ≤ size parent n p
      go None e = absurd (heavy_none p c e pc)
      go (Some h) e =
          let l = child T c p pc in
          let m = heavy_most p h c e pc in
          let one : cond (is_light parent n p c) (size parent n c) 0 ≤ sum_to n (λ c. cond (is_light parent n p c) (size parent n c) 0) = sum_one n c (λ c. cond (is_light parent n p c) (size parent n c) 0) l.1 in
          let this : cond (is_light parent n p c) (size parent n c) 0 ≡ size parent n c = rw t refl in
          let all : size parent n p ≡ 1 + sum_to n (λ c. cond (is_light parent n p c) (size parent n c) 0) + size parent n h = rw e at (size_split p (omega arith)) in
          omega arith

  pub sizes_mean : SizesMean parent n
  sizes_mean = record { root = size_whole; parts = size_parts }

  pub heavy_means : HeavyMeans parent n
  heavy_means =
      record {
        child = heavy_child;
        most = heavy_most;
        first = heavy_first;
        leaf = heavy_none;
        light = λ p c e ne. light_test p c e (⊎_elim (λ t. absurd (ne (heavy_is p c t))) (λ f. f) (cases_Bool (is_heavy parent n p c)));
        light_child = light_child;
        not_heavy = λ p c t e. both_ways (is_heavy parent n p c) (light_not p c t) (heavy_test p c e);
        rest = λ v h e. let l = child T h v (heavy_child v h e) in rw e at (light_rest v (omega arith));
        whole = whole;
      }
    where
      whole : (v : ℕ) → heavy parent n v ≡ None → light_size parent n v ≡ size parent n v
      whole v e = unfold light_size in rw e (omega arith)
