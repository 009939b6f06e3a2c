-- What the rows of the work memory hold, in the words of trees, codes and labels.
use Rattle.std.specs.Prelude.{◌≡◌, ℕ, ◌<◌, ◌≤◌, true, cond, List, [], length, Some, None, Option, ◌==◌, nat_lt}
use Rattle.trees.specs.Tree.{most_nodes}
use Rattle.trees.specs.Above.{depth_of}
use Rattle.codes.specs.declared.word.Word.{Word}
use Rattle.formats.specs.Label.{Label, body_in}
use Rattle.labels.specs.Sizes.{size, heavy, is_light, light_children, light_size}
use Rattle.labels.specs.Paths.{top}
use Rattle.labels.specs.Labels.{path_word, branch_word, label}
use Rattle.rows.specs.Chains.{at, link, chain, Held}

-- the parents that a row holds: what stands at 0 is not looked at
unfoldable pub parents_in : List ℕ → ℕ → Option ℕ
parents_in up v = cond (v == 0) None (cond (nat_lt v (length up)) (Some (at up v)) None)

-- a row of parents: each node but the root has its parent below it
pub record Rooted (up : List ℕ) : Type 0 where
  pub any : 1 ≤ length up
  pub few : length up ≤ most_nodes
  pub below : (v : ℕ) → 1 ≤ v → v < length up → at up v < v

-- each node's size, heavy child, light size, path top, depth
abbrev pub SizeRow : List ℕ → List ℕ → Type 0
SizeRow up row = (v : ℕ) → v < length up → at row v ≡ size (parents_in up) (length up) v

abbrev pub HeavyRow : List ℕ → List ℕ → Type 0
HeavyRow up row = (v : ℕ) → v < length up → heavy (parents_in up) (length up) v ≡ link (at row v)

abbrev pub LightRow : List ℕ → List ℕ → Type 0
LightRow up row = (v : ℕ) → v < length up → at row v ≡ light_size (parents_in up) (length up) v

abbrev pub TopRow : List ℕ → List ℕ → Type 0
TopRow up row = (v : ℕ) → v < length up → at row v ≡ top (parents_in up) (length up) v

abbrev pub DepthRow : List ℕ → List ℕ → Type 0
DepthRow up row = (v : ℕ) → v < length up → at row v ≡ depth_of (parents_in up) v

-- each node's path word, in three rows
abbrev pub PathRows : (List ℕ → ℕ → Word) → List ℕ → List ℕ → List ℕ → List ℕ → Type 0
PathRows f up high low len = (v : ℕ) → v < length up → Held (path_word (parents_in up) (length up) f v) high low len v

-- the light children of a node along the links, in rising number
abbrev pub linked : List ℕ → List ℕ → ℕ → List ℕ
linked first next p = cond (at first p == 0) [] (chain next (at first p))

abbrev pub LightLinks : List ℕ → List ℕ → List ℕ → Type 0
LightLinks up first next = (p : ℕ) → p < length up → linked first next p ≡ light_children (parents_in up) (length up) p

-- each light child's branch word, in three rows
abbrev pub BranchRows : (List ℕ → ℕ → Word) → List ℕ → List ℕ → List ℕ → List ℕ → Type 0
BranchRows f up high low len =
    (p c : ℕ) → is_light (parents_in up) (length up) p c ≡ true → Held (branch_word (parents_in up) (length up) f p c) high low len c

-- the label of a node under the words f
unfoldable pub row_label : (List ℕ → ℕ → Word) → List ℕ → ℕ → Label
row_label f up v = label (parents_in up) (length up) f v

-- how many bits and how many fields each node's label has
abbrev pub BitsRow : (List ℕ → ℕ → Word) → List ℕ → List ℕ → Type 0
BitsRow f up row = (v : ℕ) → v < length up → at row v ≡ length (body_in (row_label f up v))

abbrev pub FieldsRow : (List ℕ → ℕ → Word) → List ℕ → List ℕ → Type 0
FieldsRow f up row = (v : ℕ) → v < length up → at row v ≡ length (row_label f up v)
