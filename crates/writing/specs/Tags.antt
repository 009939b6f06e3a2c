-- The tag of a node, by the row of parents.
use Rattle.std.specs.Prelude.{◌≡◌, ℕ, ◌<◌, ◌≤◌, List, [], ◌∷◌, ◌++◌, length}
use Rattle.trees.specs.Above.{depth_of}
use Rattle.codes.specs.declared.word.Word.{Word}
use Rattle.codes.specs.Words.{bits}
use Rattle.formats.specs.Label.{Label, Field, path, branch, words_in}
use Rattle.formats.specs.Models.{ends_from, tag_bytes}
use Rattle.labels.specs.Labels.{path_word}
use Rattle.rows.specs.Rows.{parents_in, row_label}

-- where each word of a label ends, in bits
abbrev pub ends_at : Label → List ℕ
ends_at l = ends_from 0 (words_in l)

-- the tag of v under the words f and a tree number
unfoldable pub row_tag : (List ℕ → ℕ → Word) → List ℕ → ℕ → ℕ → List ℕ
row_tag f up number v = tag_bytes number (row_label f up v)

-- the path field that the label of v ends with
abbrev pub last_field : (List ℕ → ℕ → Word) → List ℕ → ℕ → Field
last_field f up v = path (bits (path_word (parents_in up) (length up) f v)) (depth_of (parents_in up) v)

-- the label of v is its path field alone
pub record Straight (f : List ℕ → ℕ → Word) (up : List ℕ) (v : ℕ) : Type 0 where
  pub label : row_label f up v ≡ last_field f up v ∷ []

-- the label of v is that of u, which is below v, then a branch field with the word w, then its path field
pub record Turned (f : List ℕ → ℕ → Word) (up : List ℕ) (v u : ℕ) (w : Word) : Type 0 where
  pub below : u < v
  pub short : w.len ≤ 32
  pub label : row_label f up v ≡ row_label f up u ++ (branch (bits w) ∷ last_field f up v ∷ [])
