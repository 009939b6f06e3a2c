-- Who stands above whom in a tree, and how deep a node is.
use Rattle.std.specs.Prelude.{◌≡◌, ℕ, zero, suc, Bool, ◌||◌, Some, None, Option, ◌==◌, nat_eq}

-- a is v, or stands above it: it is the parent of v, or of a node that stands above v
pub data AtOrAbove (parent : ℕ → Option ℕ) (a : ℕ) : ℕ → Type 0 where
  here : AtOrAbove parent a a
  up : {v p : ℕ} → parent v ≡ Some p → AtOrAbove parent a p → AtOrAbove parent a v

-- what to take where there is no parent, and where there is one
abbrev pub opt : {A : Type 0} → A → (ℕ → A) → Option ℕ → A
opt a f None = a
opt a f (Some p) = f p

module _ (parent : ℕ → Option ℕ) where
  -- A recursion from a node up to the root: `base r` at the root r, and `step v p x` at a node v with the parent p,
  -- where x is the parent's value. Parents have smaller numbers, so the node's own number is as many steps as can be taken.
  unfoldable pub climb : {A : Type 0} → (ℕ → A) → (ℕ → ℕ → A → A) → ℕ → ℕ → A
  climb base step zero v = base v
  climb base step (suc k) v = opt (base v) (λ p. step v p (climb base step k p)) (parent v)

  unfoldable pub rise : {A : Type 0} → (ℕ → A) → (ℕ → ℕ → A → A) → ℕ → A
  rise base step v = climb base step v v

  -- the root has depth 0, a child one more than its parent
  unfoldable pub depth_of : ℕ → ℕ
  depth_of v = rise (λ r. 0) (λ w p d. suc d) v

  -- the test of whether a is v or stands above it
  unfoldable pub is_above : ℕ → ℕ → Bool
  is_above a v = rise (λ r. nat_eq a r) (λ w p b. (a == w) || b) v
