-- Heavy paths: each begins at the root or at a light child and follows heavy children to a leaf.
use Rattle.std.specs.Prelude.{ℕ, zero, suc, cond, List, [], ◌∷◌, Option}
use Rattle.trees.specs.Above.{opt, rise}
use Rattle.labels.specs.Sizes.{heavy, is_heavy}

module _ (parent : ℕ → Option ℕ) (n : ℕ) where
  -- the first node of v's path
  unfoldable pub top : ℕ → ℕ
  top v = rise parent (λ r. r) (λ w p t. cond (is_heavy parent n p w) t w) v

  -- how many steps v is below it
  unfoldable pub place : ℕ → ℕ
  place v = rise parent (λ r. 0) (λ w p i. cond (is_heavy parent n p w) (suc i) 0) v

  -- t, its heavy child, and so on, k steps at most
  unfoldable pub path_from : ℕ → ℕ → List ℕ
  path_from zero t = t ∷ []
  path_from (suc k) t = t ∷ opt [] (λ h. path_from k h) (heavy parent n t)

  -- the path that begins with t, top first: it has no more than n nodes
  unfoldable pub heavy_path : ℕ → List ℕ
  heavy_path t = path_from n t
