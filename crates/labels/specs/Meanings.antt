-- What the definitions that count steps say, with no count.
use Rattle.std.specs.Prelude.{◌≡◌, ℕ, ◌+◌, ◌<◌, ◌≤◌, true, cond, List, [], ◌∷◌, ◌++◌, Some, None, Option, ◌≢◌, slice_index_or}
use Rattle.trees.specs.Tree.{Tree}
use Rattle.trees.specs.Above.{opt}
use Rattle.codes.specs.declared.word.Word.{Word}
use Rattle.labels.specs.Sizes.{sum_to, is_child, size, heavy, is_light, light_children, light_size}
use Rattle.labels.specs.Paths.{top, place, heavy_path}
use Rattle.labels.specs.Labels.{turn, path_field, branch_field, label}

-- a node's size is one more than the sizes of its children together, and the root's is n
pub record SizesMean (parent : ℕ → Option ℕ) (n : ℕ) : Type 0 where
  pub root : size parent n 0 ≡ n
  pub parts : (v : ℕ) → v < n → size parent n v ≡ 1 + sum_to n (λ c. cond (is_child parent v c) (size parent n c) 0)

-- the heavy child is a child of greatest size and, of those, the one with the smallest number; only a leaf has none; the other
-- children are light; the light size is the size less the heavy child's, or the size at a leaf
pub record HeavyMeans (parent : ℕ → Option ℕ) (n : ℕ) : Type 0 where
  pub child : (p h : ℕ) → heavy parent n p ≡ Some h → parent h ≡ Some p
  pub most : (p h c : ℕ) → heavy parent n p ≡ Some h → parent c ≡ Some p → size parent n c ≤ size parent n h
  pub first : (p h c : ℕ) → heavy parent n p ≡ Some h → parent c ≡ Some p → size parent n c ≡ size parent n h → h ≤ c
  pub leaf : (p c : ℕ) → heavy parent n p ≡ None → parent c ≢ Some p
  pub light : (p c : ℕ) → parent c ≡ Some p → (heavy parent n p ≢ Some c) → is_light parent n p c ≡ true
  pub light_child : (p c : ℕ) → is_light parent n p c ≡ true → parent c ≡ Some p
  pub not_heavy : (p c : ℕ) → is_light parent n p c ≡ true → heavy parent n p ≢ Some c
  pub rest : (v h : ℕ) → heavy parent n v ≡ Some h → light_size parent n v + size parent n h ≡ size parent n v
  pub whole : (v : ℕ) → heavy parent n v ≡ None → light_size parent n v ≡ size parent n v

-- a path goes from heavy child to heavy child down to a leaf; the root and each light child are tops, and no other node is; a heavy
-- child is on its parent's path; a node's place is where it stands on its path, a light child's turn where it stands among its parent's light children
pub record PathsMean (parent : ℕ → Option ℕ) (n : ℕ) : Type 0 where
  pub onward : (t : ℕ) → t < n → heavy_path parent n t ≡ t ∷ opt [] (λ h. heavy_path parent n h) (heavy parent n t)
  pub top_root : top parent n 0 ≡ 0
  pub top_heavy : (v p : ℕ) → heavy parent n p ≡ Some v → top parent n v ≡ top parent n p
  pub top_light : (v p : ℕ) → is_light parent n p v ≡ true → top parent n v ≡ v
  pub top_child : (v p : ℕ) → parent (top parent n v) ≡ Some p → is_light parent n p (top parent n v) ≡ true
  pub placed : (v : ℕ) → v < n → slice_index_or (heavy_path parent n (top parent n v)) (place parent n v) n ≡ v
  pub in_turn : (p c : ℕ) → is_light parent n p c ≡ true → slice_index_or (light_children parent n p) (turn parent n p c) n ≡ c

-- the label of a node on the root's path, and of any other
pub record LabelsMean (parent : ℕ → Option ℕ) (n : ℕ) (word : List ℕ → ℕ → Word) : Type 0 where
  pub on_root_path : (v : ℕ) → v < n → top parent n v ≡ 0 → label parent n word v ≡ path_field parent n word v ∷ []
  pub below :
      (v p : ℕ) → parent (top parent n v) ≡ Some p
      → label parent n word v ≡ label parent n word p ++ (branch_field parent n word p (top parent n v) ∷ path_field parent n word v ∷ [])

pub record Meant (parent : ℕ → Option ℕ) (n : ℕ) (word : List ℕ → ℕ → Word) : Type 0 where
  pub sizes : SizesMean parent n
  pub heavy_children : HeavyMeans parent n
  pub paths : PathsMean parent n
  pub labels : LabelsMean parent n word

abbrev pub DefinitionsMean : Type 0
DefinitionsMean = (parent : ℕ → Option ℕ) (n : ℕ) (word : List ℕ → ℕ → Word) → Tree parent n → Meant parent n word
