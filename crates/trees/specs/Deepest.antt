-- The smallest assembly that holds some nodes: the deepest node at or above all of them.
use Rattle.std.specs.Prelude.{ℕ, cond, List, [], ◌∷◌, Option}
use Rattle.trees.specs.Above.{AtOrAbove, rise, is_above}

-- d is at or above each node of the list
abbrev pub AboveAll : (ℕ → Option ℕ) → ℕ → List ℕ → Type 0
AboveAll parent d [] = Unit {0}
AboveAll parent d (v ∷ vs) = AtOrAbove parent d v × AboveAll parent d vs

-- d is at or above all of them, and every node that is at or above all of them is at or above d
pub record Deepest (parent : ℕ → Option ℕ) (vs : List ℕ) (d : ℕ) : Type 0 where
  pub above : AboveAll parent d vs
  pub lowest : (e : ℕ) → AboveAll parent e vs → AtOrAbove parent e d

module _ (parent : ℕ → Option ℕ) where
  -- of two nodes: the first on the way up from u, beginning with u, that is at or above v
  unfoldable pub meet_of : ℕ → ℕ → ℕ
  meet_of u v = rise parent (λ r. r) (λ w p d. cond (is_above parent w v) w d) u

  -- of a node and others, one after the other
  unfoldable pub meet_all : ℕ → List ℕ → ℕ
  meet_all u [] = u
  meet_all u (v ∷ vs) = meet_all (meet_of u v) vs
