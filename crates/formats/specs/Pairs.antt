-- Two labels: whether they can be of one tree, and how they stand to each other.
use Rattle.std.specs.Prelude.{ℕ, zero, suc, ◌+◌, ◌-◌, ◌*◌, Bool, true, false, cond, not, ◌&&◌, ◌||◌, [], ◌∷◌, length, take, Some, None, Option, ◌==◌, nat_lt}
use Rattle.std.proofs.Math.IntN.{sub_ℕ}
use Rattle.formats.specs.declared.answers.Difference.{Difference}
use Rattle.formats.specs.declared.answers.Difference.TheVariants.{Same, FirstEnded, SecondEnded, At}
use Rattle.formats.specs.declared.answers.Side.{Side}
use Rattle.formats.specs.declared.answers.Side.TheVariants.{First, Second}
use Rattle.formats.specs.declared.answers.Part.{Part}
use Rattle.formats.specs.declared.answers.Relation.{Relation}
use Rattle.formats.specs.declared.answers.Relation.TheVariants.{Same as SameNode, FirstAbove, SecondAbove, Apart}
use Rattle.formats.specs.declared.answers.Related.{Related}
use Rattle.formats.specs.Label.{Word, Field, path, branch, Label, word_in}

-- words

abbrev pub same_bit : Bool → Bool → Bool
same_bit true b = b
same_bit false b = not b

unfoldable pub same_word : Word → Word → Bool
same_word [] [] = true
same_word [] (y ∷ b) = false
same_word (x ∷ a) [] = false
same_word (x ∷ a) (y ∷ b) = cond (same_bit x y) (same_word a b) false

-- how many bits two words share from their start
unfoldable pub lead : Word → Word → ℕ
lead [] b = 0
lead (x ∷ a) [] = 0
lead (x ∷ a) (y ∷ b) = cond (same_bit x y) (suc (lead a b)) 0

-- the first word has 0 at the first bit at which the two differ
unfoldable pub zero_first : Word → Word → Bool
zero_first [] b = false
zero_first (x ∷ a) [] = false
zero_first (x ∷ a) (y ∷ b) = cond (same_bit x y) (zero_first a b) (not x)

-- the first word is the beginning of the second, or the whole of it
unfoldable pub begins : Word → Word → Bool
begins [] b = true
begins (x ∷ a) [] = false
begins (x ∷ a) (y ∷ b) = cond (same_bit x y) (begins a b) false

-- labels

-- the first field number at which a label has ended or the words differ
unfoldable pub first_apart : Label → Label → ℕ
first_apart [] m = 0
first_apart (x ∷ l) [] = 0
first_apart (x ∷ l) (y ∷ m) = cond (same_word (word_in x) (word_in y)) (suc (first_apart l m)) 0

unfoldable pub nth_field : Label → ℕ → Option Field
nth_field [] j = None
nth_field (x ∷ l) zero = Some x
nth_field (x ∷ l) (suc j) = nth_field l j

-- two path fields with two depths
abbrev pub unlike : Field → Field → Bool
unlike (path a d) (path b e) = not (d == e)
unlike (path a d) (branch b) = false
unlike (branch a) y = false

-- a path field before field j has two depths
unfoldable pub two_depths : ℕ → Label → Label → Bool
two_depths zero l m = false
two_depths (suc j) [] m = false
two_depths (suc j) (x ∷ l) [] = false
two_depths (suc j) (x ∷ l) (y ∷ m) = unlike x y || two_depths j l m

-- two path fields of which the one with 0 at the first differing bit does not have the smaller depth
abbrev pub misplaced : Field → Field → Bool
misplaced (path a d) (path b e) = cond (zero_first a b) (not (nat_lt d e)) (not (nat_lt e d))
misplaced (path a d) (branch b) = false
misplaced (branch a) y = false

-- by field j of each: both have it, and one word begins the other or they are misplaced
abbrev pub clash_at : Option Field → Option Field → Bool
clash_at None y = false
clash_at (Some x) None = false
clash_at (Some x) (Some y) = begins (word_in x) (word_in y) || (begins (word_in y) (word_in x) || misplaced x y)

-- two labels cannot be of one tree
unfoldable pub clash : Label → Label → Bool
clash l m = two_depths (first_apart l m) l m || clash_at (nth_field l (first_apart l m)) (nth_field m (first_apart l m))

-- where they differ, by field j of each
abbrev pub difference_at : ℕ → Option Field → Option Field → Difference
difference_at j None None = Same
difference_at j None (Some y) = FirstEnded
difference_at j (Some x) None = SecondEnded
difference_at j (Some x) (Some y) = At j (lead (word_in x) (word_in y))

unfoldable pub difference : Label → Label → Difference
difference l m = difference_at (first_apart l m) (nth_field l (first_apart l m)) (nth_field m (first_apart l m))

-- the cover of two labels of k and n fields, by field j of each
abbrev pub cover_at : ℕ → ℕ → ℕ → Option Field → Option Field → Part
cover_at k n j None y = record { side = First; fields = k }
cover_at k n j (Some x) None = record { side = Second; fields = n }
cover_at k n j (Some (branch a)) (Some y) = record { side = First; fields = j }
cover_at k n j (Some (path a d)) (Some y) =
    cond (zero_first a (word_in y)) (record { side = First; fields = j + 1 }) (record { side = Second; fields = j + 1 })

unfoldable pub cover : Label → Label → Part
cover l m = cover_at (length l) (length m) (first_apart l m) (nth_field l (first_apart l m)) (nth_field m (first_apart l m))

abbrev pub side_of : {X : Type 0} → Side → X → X → X
side_of First x y = x
side_of Second x y = y

-- the fields that a part names
abbrev pub fields_of : Part → Label → Label → Label
fields_of p l m = take p.fields (side_of p.side l m)

abbrev pub ended : Option Field → Bool
ended None = true
ended (Some x) = false

abbrev pub above : Side → Relation
above First = FirstAbove
above Second = SecondAbove

-- same where both have ended; else above is the label of which the cover is the whole, if it is
abbrev pub relation_by : Bool → Part → ℕ → ℕ → Relation
relation_by both p k n = cond both SameNode (cond (p.fields == side_of p.side k n) (above p.side) Apart)

unfoldable pub relation : Label → Label → Relation
relation l m =
    relation_by (ended (nth_field l (first_apart l m)) && ended (nth_field m (first_apart l m))) (cover l m) (length l) (length m)

abbrev pub depth_in : Field → ℕ
depth_in (path w d) = d
depth_in (branch w) = 0

-- the depth that a label ends with: its last depth entry, since it ends with a path field
unfoldable pub last_depth : Label → ℕ
last_depth [] = 0
last_depth (x ∷ []) = depth_in x
last_depth (x ∷ y ∷ l) = last_depth (y ∷ l)

-- the relation, the second depth minus the first, and both depths less twice the cover's
unfoldable pub related : Label → Label → Related
related l m = record {
  relation = relation l m;
  deeper = sub_ℕ (last_depth m) (last_depth l);
  steps = last_depth l + last_depth m - 2 * last_depth (fields_of (cover l m) l m);
}
