-- How many nodes stand at or below a node, and which of its children is heavy.
use Rattle.std.specs.Prelude.{ℕ, zero, suc, ◌+◌, ◌-◌, Bool, false, cond, not, ◌&&◌, List, [], ◌∷◌, ◌++◌, Some, None, Option, nat_eq, nat_lt}
use Rattle.trees.specs.Above.{opt, is_above}

-- f 0 + f 1 + .. + f (k - 1)
unfoldable pub sum_to : ℕ → (ℕ → ℕ) → ℕ
sum_to zero f = 0
sum_to (suc k) f = sum_to k f + f k

-- the numbers below k that pass a test, rising
unfoldable pub those : ℕ → (ℕ → Bool) → List ℕ
those zero t = []
those (suc k) t = cond (t k) (those k t ++ (k ∷ [])) (those k t)

-- c is a child of p
unfoldable pub is_child : (ℕ → Option ℕ) → ℕ → ℕ → Bool
is_child parent p c = opt false (λ q. nat_eq p q) (parent c)

module _ (parent : ℕ → Option ℕ) (n : ℕ) where
  -- how many nodes v is at or above: itself and all below it
  unfoldable pub size : ℕ → ℕ
  size v = sum_to n (λ w. cond (is_above parent v w) 1 0)

  -- of a child k and the best child before it: k has to be greater to be better
  unfoldable pub better : ℕ → Option ℕ → Option ℕ
  better k best = opt (Some k) (λ h. cond (nat_lt (size h) (size k)) (Some k) (Some h)) best

  -- the child of p of greatest size among the numbers below k, the smallest number winning a tie
  unfoldable pub heavy_to : ℕ → ℕ → Option ℕ
  heavy_to zero p = None
  heavy_to (suc k) p = cond (is_child parent p k) (better k (heavy_to k p)) (heavy_to k p)

  -- the heavy child of p; a leaf has none
  unfoldable pub heavy : ℕ → Option ℕ
  heavy p = heavy_to n p

  unfoldable pub is_heavy : ℕ → ℕ → Bool
  is_heavy p c = opt false (λ h. nat_eq h c) (heavy p)

  -- c is a child of p other than the heavy one
  unfoldable pub is_light : ℕ → ℕ → Bool
  is_light p c = is_child parent p c && not (is_heavy p c)

  -- the light children of p, in rising number
  unfoldable pub light_children : ℕ → List ℕ
  light_children p = those n (is_light p)

  -- a node's size less that of its heavy child
  unfoldable pub light_size : ℕ → ℕ
  light_size v = size v - opt 0 size (heavy v)
