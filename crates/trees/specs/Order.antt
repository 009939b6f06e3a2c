-- What is promised of depth and of standing above, in every tree.
use Rattle.std.specs.Prelude.{◌≡◌, ℕ, suc, true, ◌⊎◌, Some, Option}
use Rattle.trees.specs.Above.{AtOrAbove, depth_of, is_above}

-- the root has depth 0, and a child one more than its parent
pub record Depths (parent : ℕ → Option ℕ) : Type 0 where
  pub root : depth_of parent 0 ≡ 0
  pub child : (v p : ℕ) → parent v ≡ Some p → depth_of parent v ≡ suc (depth_of parent p)

-- standing at or above is a partial order, whatever stands at or above one node is a chain, and the test decides it
pub record Order (parent : ℕ → Option ℕ) : Type 0 where
  pub same : (a : ℕ) → AtOrAbove parent a a
  pub through : (a b c : ℕ) → AtOrAbove parent a b → AtOrAbove parent b c → AtOrAbove parent a c
  pub both : (a b : ℕ) → AtOrAbove parent a b → AtOrAbove parent b a → a ≡ b
  pub chain : (a b v : ℕ) → AtOrAbove parent a v → AtOrAbove parent b v → AtOrAbove parent a b ⊎ AtOrAbove parent b a
  pub passes : (a v : ℕ) → AtOrAbove parent a v → is_above parent a v ≡ true
  pub passed : (a v : ℕ) → is_above parent a v ≡ true → AtOrAbove parent a v
