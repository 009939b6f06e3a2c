-- The tree of levels 0, 1, 2, 2, 1, 2 under the code of Gilbert and Moore, worked out.
use Rattle.std.specs.Prelude.{◌≡◌, ℕ, true, false, List, [], ◌∷◌, map, length, take, Some, None, Option, slice_index_or}
use Rattle.std.specs.List.{range_with_len}
use Rattle.trees.specs.Tree.{Tree}
use Rattle.codes.specs.Gilbert.{gilbert_moore}
use Rattle.formats.specs.Label.{Label, path, branch}
use Rattle.formats.specs.Pairs.{cover, fields_of}
use Rattle.labels.specs.Sizes.{size, heavy, light_size}
use Rattle.labels.specs.Labels.{label}
use Rattle.labels.specs.Sheet.{tag, offset, sheet}

abbrev pub small_parent : ℕ → Option ℕ
small_parent v = slice_index_or (None ∷ Some 0 ∷ Some 1 ∷ Some 1 ∷ Some 0 ∷ Some 4 ∷ []) v None

abbrev pub small_label : ℕ → Label
small_label v = label small_parent 6 gilbert_moore v

-- for each node, in order
abbrev pub for_all : {A : Type 0} → (ℕ → A) → List A
for_all f = map f (range_with_len 0 6)

pub record Table : Type 0 where
  pub is_tree : Tree small_parent 6
  pub sizes : for_all (size small_parent 6) ≡ 6 ∷ 3 ∷ 1 ∷ 1 ∷ 2 ∷ 1 ∷ []
  pub heavies : for_all (heavy small_parent 6) ≡ Some 1 ∷ Some 2 ∷ None ∷ None ∷ Some 5 ∷ None ∷ []
  pub lights : for_all (light_size small_parent 6) ≡ 3 ∷ 2 ∷ 1 ∷ 1 ∷ 1 ∷ 1 ∷ []
  pub of_0 : small_label 0 ≡ path (false ∷ true ∷ []) 0 ∷ []
  pub of_1 : small_label 1 ≡ path (true ∷ false ∷ true ∷ []) 1 ∷ []
  pub of_2 : small_label 2 ≡ path (true ∷ true ∷ true ∷ false ∷ []) 2 ∷ []
  pub of_3 : small_label 3 ≡ path (true ∷ false ∷ true ∷ []) 1 ∷ branch (true ∷ []) ∷ path (true ∷ []) 2 ∷ []
  pub of_4 : small_label 4 ≡ path (false ∷ true ∷ []) 0 ∷ branch (true ∷ []) ∷ path (false ∷ true ∷ []) 1 ∷ []
  pub of_5 : small_label 5 ≡ path (false ∷ true ∷ []) 0 ∷ branch (true ∷ []) ∷ path (true ∷ true ∷ []) 2 ∷ []
  -- the cover of 3 and 5 is the root, that of 2 and 3 is their parent
  pub of_3_and_5 : fields_of (cover (small_label 3) (small_label 5)) (small_label 3) (small_label 5) ≡ small_label 0
  pub of_2_and_3 : fields_of (cover (small_label 2) (small_label 3)) (small_label 2) (small_label 3) ≡ small_label 1
  -- the sheet under tree number 7
  pub tag_5 :
      tag small_parent 6 gilbert_moore 7 5
      ≡ 0x07 ∷ 0x00 ∷ 0x03 ∷ 0x02 ∷ 0x00 ∷ 0x03 ∷ 0x00 ∷ 0x05 ∷ 0x00 ∷ 0x00 ∷ 0x00 ∷ 0x02 ∷ 0x00 ∷ 0x78 ∷ []
  pub offsets : map (offset small_parent 6 gilbert_moore 7) (range_with_len 0 7) ≡ 32 ∷ 40 ∷ 48 ∷ 56 ∷ 70 ∷ 84 ∷ 98 ∷ []
  pub header :
      take 32 (sheet small_parent 6 gilbert_moore 7)
      ≡ 0x07 ∷ 0x00 ∷ 0x06 ∷ 0x00 ∷ 0x20 ∷ 0x00 ∷ 0x00 ∷ 0x00 ∷ 0x28 ∷ 0x00 ∷ 0x00 ∷ 0x00 ∷ 0x30 ∷ 0x00 ∷ 0x00 ∷ 0x00
      ∷ 0x38 ∷ 0x00 ∷ 0x00 ∷ 0x00 ∷ 0x46 ∷ 0x00 ∷ 0x00 ∷ 0x00 ∷ 0x54 ∷ 0x00 ∷ 0x00 ∷ 0x00 ∷ 0x62 ∷ 0x00 ∷ 0x00 ∷ 0x00 ∷ []
  pub bytes : length (sheet small_parent 6 gilbert_moore 7) ≡ 98
