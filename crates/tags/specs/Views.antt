-- What a tag and its fields show of the bytes that they stand for.
use Rattle.std.specs.Prelude.{ℕ, ◌+◌, ◌-◌, ◌/◌, ◌%◌, Bool, false, cond, ◌&&◌, List, length, Some, None, Option, ◌==◌, nat_le, nat_lt, slice_index_or}
use Rattle.std.specs.List.{between}
use Rattle.formats.specs.Label.{Word, path, branch, Field as Said}
use Rattle.formats.specs.Layout.{count_of, head_of, begin_at, end_at, depth_at}
use Rattle.formats.specs.Words.{bits_at}
use Rattle.tags.specs.declared.field.FieldWord.{FieldWord}
use Rattle.tags.specs.declared.field.Field.{Field}
use Rattle.tags.specs.declared.field.Field.TheVariants.{Path, Branch}
use Rattle.tags.specs.declared.tag.Tag.{Tag}

-- the bytes of a tag
abbrev pub raw : Tag → List ℕ
raw t = t.bytes.now

-- where field i ends, if there is a field i
abbrev pub end_answer : List ℕ → ℕ → Option ℕ
end_answer bs i = cond (nat_lt i (count_of bs)) (Some (end_at bs i)) None

-- depth entry j, if there is one
abbrev pub depth_answer : List ℕ → ℕ → Option ℕ
depth_answer bs j = cond (nat_lt j ((count_of bs + 1) / 2)) (Some (depth_at bs j)) None

-- the depth entry of the last path field
abbrev pub last_answer : List ℕ → ℕ
last_answer bs = depth_at bs (count_of bs / 2)

-- a field as it is shown: the bytes that it touches, its first bit in the body, its length in bits, and a path field's depth
pub data View : Type 0 where
  path_view : List ℕ → ℕ → ℕ → ℕ → View
  branch_view : List ℕ → ℕ → ℕ → View

abbrev pub view : Field → View
view (Path w depth) = path_view w.bytes.now w.first_bit w.len depth
view (Branch w) = branch_view w.bytes.now w.first_bit w.len

-- the bytes that field i touches
abbrev pub touched : List ℕ → ℕ → List ℕ
touched bs i = between (head_of bs + begin_at bs i / 8) (head_of bs + (end_at bs i + 7) / 8) bs

abbrev pub view_at : List ℕ → ℕ → View
view_at bs i =
    cond (i % 2 == 0)
    (path_view (touched bs i) (begin_at bs i) (end_at bs i - begin_at bs i) (depth_at bs (i / 2)))
    (branch_view (touched bs i) (begin_at bs i) (end_at bs i - begin_at bs i))

-- there is a field i, it does not end before it begins, and its bytes are there; in a tag the last two always hold
abbrev pub has_field : List ℕ → ℕ → Bool
has_field bs i = nat_lt i (count_of bs) && (nat_le (begin_at bs i) (end_at bs i) && nat_le (head_of bs + (end_at bs i + 7) / 8) (length bs))

abbrev pub field_answer : List ℕ → ℕ → Option View
field_answer bs i = cond (has_field bs i) (Some (view_at bs i)) None

abbrev pub shown : Option Field → Option View
shown None = None
shown (Some f) = Some (view f)

-- the word of a field, in the bytes that it touches
abbrev pub held : Field → FieldWord
held (Path w depth) = w
held (Branch w) = w

-- the bits of a word
abbrev pub bits_in : FieldWord → Word
bits_in w = bits_at w.bytes.now (w.first_bit % 8) w.len

-- bit t of a word, if the word has it
abbrev pub bit_in : FieldWord → ℕ → Option Bool
bit_in w t = cond (nat_lt t w.len) (Some (slice_index_or (bits_in w) t false)) None

-- the word that a field shows
abbrev pub bytes_in : Field → List ℕ
bytes_in f = (held f).bytes.now

abbrev pub first_in : Field → ℕ
first_in f = (held f).first_bit

abbrev pub len_in : Field → ℕ
len_in f = (held f).len

abbrev pub word_of : Field → Word
word_of f = bits_at (bytes_in f) (first_in f % 8) (len_in f)

-- bit t of its word, if the word has it
abbrev pub bit_answer : Field → ℕ → Option Bool
bit_answer f t = cond (nat_lt t (len_in f)) (Some (slice_index_or (word_of f) t false)) None

-- the field of a label that it is
abbrev pub said : Field → Said
said (Path w depth) = path (bits_in w) depth
said (Branch w) = branch (bits_in w)

abbrev pub said_in : Option Field → Option Said
said_in None = None
said_in (Some f) = Some (said f)
