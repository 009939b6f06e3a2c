-- A label: what a tag says besides the number of its tree.
use Rattle.std.specs.Prelude.{ℕ, suc, ◌≤◌, Bool, List, [], ◌∷◌, map, length}
use Rattle.std.specs.List.{flat_map}
use Rattle.formats.specs.Limits.{most_fields, most_field_bits, most_body_bits, most_depth, most_number}

-- bits, the high bit first
abbrev pub Word : Type 0
Word = List Bool

-- A path field has a word and a depth; a branch field has a word.
pub data Field : Type 0 where
  path : Word → ℕ → Field
  branch : Word → Field

abbrev pub Label : Type 0
Label = List Field

abbrev pub word_in : Field → Word
word_in (path w d) = w
word_in (branch w) = w

abbrev pub words_in : Label → List Word
words_in l = map word_in l

abbrev pub depths_in : Label → List ℕ
depths_in [] = []
depths_in (path w d ∷ l) = d ∷ depths_in l
depths_in (branch w ∷ l) = depths_in l

-- all the bits of a label, one field after the other
abbrev pub body_in : Label → Word
body_in l = flat_map (λ w. w) (words_in l)

-- a word of 1 to 32 bits
abbrev pub Fit : Word → Type 0
Fit w = (1 ≤ length w) × (length w ≤ most_field_bits)

-- A path field and then, as often as there is more, a branch field and a path field: an odd number of fields. The depths rise, from low on.
abbrev pub Chain : ℕ → Label → Type 0
Chain low [] = ⊥
Chain low (path w d ∷ []) = Fit w × (low ≤ d) × (d ≤ most_depth)
Chain low (path w d ∷ branch b ∷ l) = Fit w × (low ≤ d) × (d ≤ most_depth) × Fit b × Chain (suc d) l
Chain low (path w d ∷ path b e ∷ l) = ⊥
Chain low (branch w ∷ l) = ⊥

-- the labels that a tag can hold
pub record Fine (l : Label) : Type 0 where
  pub chain : Chain 0 l
  pub few : length l ≤ most_fields
  pub short : length (body_in l) ≤ most_body_bits

-- the tree numbers and labels that a tag can hold
pub record WellFormed (number : ℕ) (l : Label) : Type 0 where
  pub some : 1 ≤ number
  pub small : number ≤ most_number
  pub label : Fine l
