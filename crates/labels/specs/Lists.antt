-- The lists of weights that labels hand to a code are lists that every code takes, so it never refuses one.
use Rattle.std.specs.Prelude.{◌≡◌, ℕ, ◌+◌, ◌<◌, true, List, length, Ok, sum, Option, slice_index}
use Rattle.trees.specs.Tree.{Tree}
use Rattle.codes.specs.declared.word.Word.{Word}
use Rattle.codes.specs.Coding.{answer}
use Rattle.codes.specs.Weighing.{Weights}
use Rattle.labels.specs.Sizes.{size, is_light, light_size}
use Rattle.labels.specs.Paths.{top, place}
use Rattle.labels.specs.Labels.{path_weights, branch_weights, turn, path_word, branch_word}

-- the light sizes along a path come to its top's size, and a node's light size stands at its place
pub record PathLists (parent : ℕ → Option ℕ) (n : ℕ) : Type 0 where
  pub accepted : (t : ℕ) → t < n → Weights (path_weights parent n t)
  pub total : (t : ℕ) → t < n → sum (path_weights parent n t) ≡ size parent n t
  pub inside : (v : ℕ) → v < n → place parent n v < length (path_weights parent n (top parent n v))
  pub weight : (v : ℕ) → v < n → slice_index (path_weights parent n (top parent n v)) (place parent n v) ≡ light_size parent n v
  pub answered :
      (word : List ℕ → ℕ → Word) (v : ℕ) → v < n
      → answer word (path_weights parent n (top parent n v)) (place parent n v) ≡ Ok (path_word parent n word v)

-- the sizes of a node's light children come to one less than its light size, and a child's size stands at its turn
pub record BranchLists (parent : ℕ → Option ℕ) (n : ℕ) : Type 0 where
  pub accepted : (p c : ℕ) → is_light parent n p c ≡ true → Weights (branch_weights parent n p)
  pub total : (p : ℕ) → p < n → sum (branch_weights parent n p) + 1 ≡ light_size parent n p
  pub inside : (p c : ℕ) → is_light parent n p c ≡ true → turn parent n p c < length (branch_weights parent n p)
  pub weight : (p c : ℕ) → is_light parent n p c ≡ true → slice_index (branch_weights parent n p) (turn parent n p c) ≡ size parent n c
  pub answered :
      (word : List ℕ → ℕ → Word) (p c : ℕ) → is_light parent n p c ≡ true
      → answer word (branch_weights parent n p) (turn parent n p c) ≡ Ok (branch_word parent n word p c)

pub record Accepted (parent : ℕ → Option ℕ) (n : ℕ) : Type 0 where
  pub paths : PathLists parent n
  pub branches : BranchLists parent n

abbrev pub ListsAccepted : Type 0
ListsAccepted = (parent : ℕ → Option ℕ) (n : ℕ) → Tree parent n → Accepted parent n
