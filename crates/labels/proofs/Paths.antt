-- Heavy paths: what follows what, and where a node stands on its path.
use Rattle.std.proofs.Common.{◌≡◌, ℕ, zero, suc, ◌+◌, ◌<◌, ◌≤◌, true, false, cond, List, [], ◌∷◌, length, get_or, drop, Some, None, sum_by, Option, sym, refl, ap, ◌∙◌, ⊎_elim, arith, length-drop}
use Rattle.std.specs.List.{AllByRecursion}
use Rattle.std.proofs.lemmas.List.Sums.{sum_by-cons}
use Rattle.std.proofs.lemmas.Bool.{cases_Bool}
use Rattle.trees.specs.Tree.{Tree}
use Rattle.trees.specs.Above.{opt, depth_of}
use Rattle.trees.proofs.Upward.{child, upward, rise_none, rise_some, depth_some}
use Rattle.labels.specs.Sizes.{size, heavy, is_heavy, is_light, light_size, light_children}
use Rattle.labels.specs.Paths.{top, place, path_from, heavy_path}
use Rattle.labels.specs.Labels.{turn}
use Rattle.labels.specs.Meanings.{PathsMean}
use Rattle.labels.proofs.Sizes.{heavy_child, heavy_is, heavy_test, light_child, light_not, light_test, light_rest}
use Rattle.labels.proofs.Those.{those_at}

module _ {parent : ℕ → Option ℕ} {n : ℕ} (T : Tree parent n) where
  -- ---- up

  pub top_none : (v : ℕ) → parent v ≡ None → (top parent n v ≡ v) × (place parent n v ≡ 0)
  unfolding top place
  top_none v e = (rise_none T _ _ v e, rise_none T _ _ v e)

  pub top_heavy : (v p : ℕ) → parent v ≡ Some p → is_heavy parent n p v ≡ true → (top parent n v ≡ top parent n p) × (place parent n v ≡ suc (place parent n p))
  unfolding top place
  top_heavy v p e t = (
    rise_some T _ (λ w p t. cond (is_heavy parent n p w) t w) v p e ∙ rw t refl,
    rise_some T _ (λ w p i. cond (is_heavy parent n p w) (suc i) 0) v p e ∙ rw t refl,
  )

  pub top_light : (v p : ℕ) → parent v ≡ Some p → is_heavy parent n p v ≡ false → (top parent n v ≡ v) × (place parent n v ≡ 0)
  unfolding top place
  top_light v p e t = (
    rise_some T _ (λ w p t. cond (is_heavy parent n p w) t w) v p e ∙ rw t refl,
    rise_some T _ (λ w p i. cond (is_heavy parent n p w) (suc i) 0) v p e ∙ rw t refl,
  )

  -- induction in three cases: a node with no parent, a heavy child, a light child
  pub cases_in : (P : ℕ → Type 0)
      → ((v : ℕ) → parent v ≡ None → P v)
      → ((v p : ℕ) → parent v ≡ Some p → is_heavy parent n p v ≡ true → P p → P v)
      → ((v p : ℕ) → parent v ≡ Some p → is_heavy parent n p v ≡ false → P p → P v)
      → (v : ℕ) → P v
  cases_in P a b c = upward T P a (λ v p e ih. ⊎_elim (λ t. b v p e t ih) (λ t. c v p e t ih) (cases_Bool (is_heavy parent n p v)))

  pub top_le : (v : ℕ) → top parent n v ≤ v
  top_le =
      cases_in (λ v. top parent n v ≤ v)
      (λ v e. let a = top_none v e in omega arith)
      (λ v p e t ih. let a = top_heavy v p e t in let l = (child T v p e).0 in omega arith)
      (λ v p e t ih. let a = top_light v p e t in omega arith)

  -- a top that has a parent is a light child
  top_child : (v p : ℕ) → parent (top parent n v) ≡ Some p → is_light parent n p (top parent n v) ≡ true
  top_child =
      cases_in (λ v. (p : ℕ) → parent (top parent n v) ≡ Some p → is_light parent n p (top parent n v) ≡ true)
      (λ v e p f. let g : parent v ≡ Some p = rw (top_none v e).0 at f in let z : ◌≡◌ {A = ℕ} 0 1 = cc in absurd (omega arith))
      (λ v q e t ih p f. rw (top_heavy v q e t).0 (ih p (rw (top_heavy v q e t).0 at f)))
      (λ v q e t ih p f.
      let g : parent v ≡ Some p = rw (top_light v q e t).0 at f in
      let s : q ≡ p = cc in
      let b : is_heavy parent n p v ≡ false = rw s at t in
      rw (top_light v q e t).0 (light_test T p v g b))

  -- a node stands as far below the top of its path as its place says
  pub depth_place : (v : ℕ) → depth_of parent v ≡ depth_of parent (top parent n v) + place parent n v
  depth_place =
      cases_in (λ v. depth_of parent v ≡ depth_of parent (top parent n v) + place parent n v)
      (λ v e. let a = top_none v e in rw (a.0, a.1) (omega arith))
      (λ v p e t ih. let a = top_heavy v p e t in let s = depth_some T v p e in rw (a.0, a.1) (omega arith))
      (λ v p e t ih. let a = top_light v p e t in rw (a.0, a.1) (omega arith))

  -- ---- down

  down : (t h : ℕ) → heavy parent n t ≡ Some h → (t < h) × (h < n)
  down t h e = child T h t (heavy_child T t h e)

  -- one step more than is needed changes nothing
  more : (k t : ℕ) → n ≤ t + suc k → path_from parent n (suc k) t ≡ path_from parent n k t
  unfolding path_from
  more zero t l = ap {B = List ℕ} (λ r. t ∷ r) (go (heavy parent n t) refl)
    where
      go : (o : Option ℕ) → heavy parent n t ≡ o → opt [] (λ h. path_from parent n 0 h) o ≡ []
      go None e = refl
      go (Some h) e = let d = down t h e in absurd (omega arith)
  more (suc k) t l = ap {B = List ℕ} (λ r. t ∷ r) (go (λ h d. more k h (omega arith)) (heavy parent n t) refl)
    where
      go :
          ((h : ℕ) → t < h → path_from parent n (suc k) h ≡ path_from parent n k h) → (o : Option ℕ) → heavy parent n t ≡ o
          → opt [] (λ h. path_from parent n (suc k) h) o ≡ opt [] (λ h. path_from parent n k h) o
      go ih None e = refl
      go ih (Some h) e = ih h (down t h e).0

  pub onward : (t : ℕ) → heavy_path parent n t ≡ t ∷ opt [] (λ h. heavy_path parent n h) (heavy parent n t)
  unfolding heavy_path
  onward t = sym (more n t (omega arith)) ∙ one
    where
      one : path_from parent n (suc n) t ≡ t ∷ opt [] (λ h. path_from parent n n h) (heavy parent n t)
      one = unfold path_from in refl

  path_leaf : (t : ℕ) → heavy parent n t ≡ None → heavy_path parent n t ≡ t ∷ []
  path_leaf t e = onward t ∙ rw e refl

  path_down : (t h : ℕ) → heavy parent n t ≡ Some h → heavy_path parent n t ≡ t ∷ heavy_path parent n h
  path_down t h e = onward t ∙ rw e refl

  -- induction from a leaf up its path
  downward : (P : ℕ → Type 0)
      → ((t : ℕ) → t < n → heavy parent n t ≡ None → P t)
      → ((t h : ℕ) → t < n → heavy parent n t ≡ Some h → P h → P t)
      → (t : ℕ) → t < n → P t
  downward P base step t l = go n t (omega arith) l
    where
      at : (t : ℕ) → t < n → ((h : ℕ) → t < h → h < n → P h) → (o : Option ℕ) → heavy parent n t ≡ o → P t
      at t l ih None e = base t l e
      at t l ih (Some h) e = let d = down t h e in step t h l e (ih h d.0 d.1)

      go : (k t : ℕ) → n ≤ t + k → t < n → P t
      go zero t m l = absurd (omega arith)
      go (suc k) t m l = at t l (λ h a b. go k h (omega arith) b) (heavy parent n t) refl

  pub path_sum : (t : ℕ) → t < n → sum_by (light_size parent n) (heavy_path parent n t) ≡ size parent n t
  path_sum =
      downward (λ t. sum_by (light_size parent n) (heavy_path parent n t) ≡ size parent n t)
      (λ t l e. let a : light_size parent n t + 0 ≡ size parent n t = rw e at (light_rest T t l) in rw (path_leaf t e) (omega arith))
      (λ t h l e ih.
      let a : light_size parent n t + size parent n h ≡ size parent n t = rw e at (light_rest T t l) in
      let b = sum_by-cons (light_size parent n) t (heavy_path parent n h) in
      rw (path_down t h e) (omega arith))

  pub path_all : (t : ℕ) → t < n → AllByRecursion (λ v. v < n) (heavy_path parent n t)
  path_all =
      downward (λ t. AllByRecursion (λ v. v < n) (heavy_path parent n t))
      (λ t l e. rw (path_leaf t e) (l, tt))
      (λ t h l e ih. rw (path_down t h e) (l, ih))

  -- from v's place on, its path is the one that begins with v
  pub from_place : (v : ℕ) → drop (place parent n v) (heavy_path parent n (top parent n v)) ≡ heavy_path parent n v
  from_place =
      cases_in (λ v. drop (place parent n v) (heavy_path parent n (top parent n v)) ≡ heavy_path parent n v)
      (λ v e. let a = top_none v e in rw (a.0, a.1) refl)
      (λ v p e t ih. let a = top_heavy v p e t in
      rw (a.0, a.1) (next (place parent n p) (heavy_path parent n (top parent n p)) ∙ ap (drop 1) (ih ∙ path_down p v (heavy_is T p v t))))
      (λ v p e t ih. let a = top_light v p e t in rw (a.0, a.1) refl)
    where
      next : (i : ℕ) (xs : List ℕ) → drop (suc i) xs ≡ drop 1 (drop i xs)
      next zero xs = refl
      next (suc i) [] = refl
      next (suc i) (x ∷ xs) = next i xs

  pub placed : (v d : ℕ) → get_or (heavy_path parent n (top parent n v)) (place parent n v) d ≡ v
  placed v d =
      sym (start (place parent n v) (heavy_path parent n (top parent n v)))
      ∙ (ap (λ xs. get_or xs 0 d) (from_place v ∙ onward v))
    where
      start : (i : ℕ) (xs : List ℕ) → get_or (drop i xs) 0 d ≡ get_or xs i d
      start zero xs = refl
      start (suc i) [] = refl
      start (suc i) (x ∷ xs) = start i xs

  pub place_less : (v : ℕ) → place parent n v < length (heavy_path parent n (top parent n v))
  place_less v =
      let a = length-drop (place parent n v) (heavy_path parent n (top parent n v)) in
      let b = ap length (from_place v ∙ onward v) in
      omega arith

  pub paths_mean : PathsMean parent n
  unfolding light_children turn
  paths_mean =
      record {
        onward = λ t l. onward t;
        top_root = (top_none 0 T.root).0;
        top_heavy = λ v p e. (top_heavy v p (heavy_child T p v e) (heavy_test T p v e)).0;
        top_light = λ v p t. (top_light v p (light_child T p v t) (light_not T p v t)).0;
        top_child = top_child;
        placed = λ v l. placed v n;
        in_turn = λ p c t. those_at n c n _ t (child T c p (light_child T p c t)).1;
      }
