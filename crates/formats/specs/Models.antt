-- The bytes of a tree number and a label, and what bytes read as.
use Rattle.std.specs.Prelude.{ℕ, ◌+◌, ◌/◌, ◌%◌, cond, List, [], ◌∷◌, ◌++◌, map, length, Some, None, Ok, Err, Option, Result, ◌==◌}
use Rattle.std.specs.List.{range_with_len, flat_map}
use Rattle.formats.specs.declared.fault.TagFault.{TagFault}
use Rattle.formats.specs.Label.{Word, Field, path, branch, Label, words_in, depths_in, body_in}
use Rattle.formats.specs.Faults.{tag_fault}
use Rattle.formats.specs.Layout.{tree_of, count_of, depth_at}
use Rattle.formats.specs.Words.{word_at, pack}

-- a number in two bytes, low byte first
abbrev pub two : ℕ → List ℕ
two n = n % 256 ∷ n / 256 ∷ []

-- where each word ends, in bits, when the first begins at b
abbrev pub ends_from : ℕ → List Word → List ℕ
ends_from b [] = []
ends_from b (w ∷ ws) = (b + length w) ∷ ends_from (b + length w) ws

-- tree number, count, ends, depths, body
unfoldable pub tag_bytes : ℕ → Label → List ℕ
tag_bytes number l =
    two number ++ (length l ∷ flat_map two (ends_from 0 (words_in l)) ++ (flat_map two (depths_in l) ++ pack (body_in l)))

-- field i of a label is a path field where i is even
abbrev pub field_by : ℕ → Word → ℕ → Field
field_by i w d = cond (i % 2 == 0) (path w d) (branch w)

abbrev pub field_at : List ℕ → ℕ → Field
field_at bs i = field_by i (word_at bs i) (depth_at bs (i / 2))

-- the fields 0, 1, .. of bytes, as many as they count
abbrev pub label_of : List ℕ → Label
label_of bs = map (field_at bs) (range_with_len 0 (count_of bs))

-- x, unless there is a refusal
abbrev pub outcome : {X E : Type 0} → Option E → X → Result X E
outcome None x = Ok x
outcome (Some e) x = Err e

abbrev pub read_tag : List ℕ → Result (ℕ × Label) TagFault
read_tag bs = outcome (tag_fault bs) (tree_of bs, label_of bs)
