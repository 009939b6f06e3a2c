-- What is proved of the format and of the queries.
use Rattle.std.specs.Prelude.{◌≡◌, ℕ, ◌+◌, ◌*◌, ◌%◌, ◌<◌, ◌≤◌, true, false, List, [], ◌∷◌, length, take, pos, ◌+ℤ◌, Ok, slice_index}
use Rattle.formats.specs.declared.answers.Part.{Part}
use Rattle.formats.specs.declared.answers.Related.{Related}
use Rattle.formats.specs.Limits.{most_depth, most_tag_bytes}
use Rattle.formats.specs.Label.{path, branch, Label, WellFormed}
use Rattle.formats.specs.Layout.{tree_of, count_of}
use Rattle.formats.specs.Models.{tag_bytes, label_of, read_tag}
use Rattle.formats.specs.Pairs.{cover, side_of, fields_of, last_depth}

-- every entry is a byte
abbrev pub Bytes : List ℕ → Type 0
Bytes bs = (i : ℕ) → slice_index bs i < 256

pub record RoundTrip : Type 0 where
  -- the bytes of a well-formed number and label are bytes, at most 321, and read back
  pub bytes : (number : ℕ) (l : Label) → WellFormed number l → Bytes (tag_bytes number l)
  pub short : (number : ℕ) (l : Label) → WellFormed number l → length (tag_bytes number l) ≤ most_tag_bytes
  pub back : (number : ℕ) (l : Label) → WellFormed number l → read_tag (tag_bytes number l) ≡ Ok (number, l)
  -- bytes that are read are the bytes of what they read as, and that is well-formed
  pub same : (bs : List ℕ) → Bytes bs → (number : ℕ) (l : Label) → read_tag bs ≡ Ok (number, l) → tag_bytes number l ≡ bs
  pub well : (bs : List ℕ) → Bytes bs → (number : ℕ) (l : Label) → read_tag bs ≡ Ok (number, l) → WellFormed number l

-- of bytes that are a tag: what they read as, that its bytes are these, and that it is well-formed
pub record Reads (bs : List ℕ) : Type 0 where
  pub reads : read_tag bs ≡ Ok (tree_of bs, label_of bs)
  pub same : tag_bytes (tree_of bs) (label_of bs) ≡ bs
  pub well : WellFormed (tree_of bs) (label_of bs)
  pub short : length bs ≤ most_tag_bytes

-- 07 00 03 02 00 03 00 05 00 00 00 02 00 78
abbrev pub example : List ℕ
example = 0x07 ∷ 0x00 ∷ 0x03 ∷ 0x02 ∷ 0x00 ∷ 0x03 ∷ 0x00 ∷ 0x05 ∷ 0x00 ∷ 0x00 ∷ 0x00 ∷ 0x02 ∷ 0x00 ∷ 0x78 ∷ []

-- path 01 at depth 0, branch 1, path 11 at depth 2
abbrev pub example_label : Label
example_label = path (false ∷ true ∷ []) 0 ∷ branch (true ∷ []) ∷ path (true ∷ true ∷ []) 2 ∷ []

pub record Marked : Type 0 where
  pub writes : tag_bytes 7 example_label ≡ example
  pub reads : read_tag example ≡ Ok (7, example_label)

-- cs is a tag that reads as the first m fields of bs; where these are all its fields, it is bs again
pub record Shortened (bs : List ℕ) (m : ℕ) (cs : List ℕ) : Type 0 where
  pub reads : read_tag cs ≡ Ok (tree_of bs, take m (label_of bs))
  pub whole : m ≡ count_of bs → cs ≡ bs

-- A part that can be cut out: an odd number of fields, and no more than that side has; and no deeper than either label.
pub record Shared (l m : Label) (p : Part) : Type 0 where
  pub odd : p.fields % 2 ≡ 1
  pub within : p.fields ≤ length (side_of p.side l m)
  pub first : last_depth (fields_of p l m) ≤ last_depth l
  pub second : last_depth (fields_of p l m) ≤ last_depth m

-- The numbers of an answer are exact: no difference was cut off at 0, and the steps are at most twice the greatest depth.
pub record Exact (l m : Label) (r : Related) : Type 0 where
  pub deeper : r.deeper +ℤ pos (last_depth l) ≡ pos (last_depth m)
  pub steps : r.steps + 2 * last_depth (fields_of (cover l m) l m) ≡ last_depth l + last_depth m
  pub few : r.steps ≤ 2 * most_depth
