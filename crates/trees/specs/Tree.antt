-- What a tree of n nodes is.
use Rattle.std.specs.Prelude.{◌≡◌, ℕ, ◌<◌, ◌≤◌, Some, None, Option}

abbrev pub most_nodes : ℕ
most_nodes = 32767

-- The nodes are the numbers below n, of which there is at least one. Node 0 is the root, and has no parent;
-- every other node has a parent with a smaller number; a number that is no node has none.
pub record Tree (parent : ℕ → Option ℕ) (n : ℕ) : Type 0 where
  pub some_node : 1 ≤ n
  pub few : n ≤ most_nodes
  pub root : parent 0 ≡ None
  pub inner : (v : ℕ) → 1 ≤ v → v < n → (p : ℕ) × (parent v ≡ Some p) × (p < v)
  pub outer : (v : ℕ) → n ≤ v → parent v ≡ None
