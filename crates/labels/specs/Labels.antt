-- The label of a node, under the words of a code.
use Rattle.std.specs.Prelude.{ℕ, zero, suc, List, [], ◌∷◌, ◌++◌, map, length, Option}
use Rattle.trees.specs.Above.{opt, depth_of}
use Rattle.codes.specs.declared.word.Word.{Word}
use Rattle.codes.specs.Words.{bits}
use Rattle.formats.specs.Label.{Field, path, branch, Label}
use Rattle.labels.specs.Sizes.{those, size, is_light, light_children, light_size}
use Rattle.labels.specs.Paths.{top, place, heavy_path}

module _ (parent : ℕ → Option ℕ) (n : ℕ) where
  -- the light sizes along the path that begins with t, top first
  unfoldable pub path_weights : ℕ → List ℕ
  path_weights t = map (light_size parent n) (heavy_path parent n t)

  -- the sizes of the light children of p, in rising number
  unfoldable pub branch_weights : ℕ → List ℕ
  branch_weights p = map (size parent n) (light_children parent n p)

  -- how many light children of p come before c
  unfoldable pub turn : ℕ → ℕ → ℕ
  turn p c = length (those c (is_light parent n p))

module _ (parent : ℕ → Option ℕ) (n : ℕ) (word : List ℕ → ℕ → Word) where
  -- the path word of v: its word among the light sizes along its path
  unfoldable pub path_word : ℕ → Word
  path_word v = word (path_weights parent n (top parent n v)) (place parent n v)

  -- the branch word of a light child c of p: its word among the sizes of p's light children
  unfoldable pub branch_word : ℕ → ℕ → Word
  branch_word p c = word (branch_weights parent n p) (turn parent n p c)

  -- a path field carries the depth of the node that the label reaches there
  unfoldable pub path_field : ℕ → Field
  path_field v = path (bits (path_word v)) (depth_of parent v)

  unfoldable pub branch_field : ℕ → ℕ → Field
  branch_field p c = branch (bits (branch_word p c))

  -- On the root's path the path word alone; elsewhere the label of the parent of the path's top, then the top's branch word, then the
  -- path word. The first number bounds how many paths are gone up.
  unfoldable pub label_in : ℕ → ℕ → Label
  label_in zero v = path_field v ∷ []
  label_in (suc k) v =
      opt (path_field v ∷ []) (λ p. label_in k p ++ (branch_field p (top parent n v) ∷ path_field v ∷ [])) (parent (top parent n v))

  -- parents have smaller numbers, so the node's own number is enough
  unfoldable pub label : ℕ → Label
  label v = label_in v v
