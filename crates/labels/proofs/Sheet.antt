-- What stands where on a sheet.
use Rattle.std.proofs.Common.{◌≡◌, ℕ, zero, suc, ◌+◌, ◌-◌, ◌*◌, ◌/◌, ◌%◌, ◌<◌, ◌≤◌, List, [], ◌∷◌, ◌++◌, map, length, get_or, take, drop, Option, sym, refl, ap, ◌∙◌, subst, append_assoc, add-zero, suc-add, zero-add, add-one, arith}
use lib.Seq.{take-append_seam, drop-append_seam}
use Rattle.std.specs.List.{range_with_len, flat_map}
use Rattle.std.proofs.lemmas.List.FromFn.{length-map-range_with_len, get_or-map-range_with_len}
use Rattle.std.proofs.lemmas.List.{length-append, get_or-append-add}
use Rattle.trees.specs.Tree.{Tree}
use Rattle.codes.specs.declared.word.Word.{Word}
use Rattle.codes.specs.Coding.{Lawful}
use Rattle.formats.specs.Limits.{most_number, most_tag_bytes}
use Rattle.formats.specs.Models.{two}
use Rattle.formats.specs.Theorems.{Bytes}
use Rattle.formats.proofs.Small.{bytes_append}
use Rattle.formats.proofs.Trip.{trip}
use Rattle.labels.specs.Sizes.{sum_to}
use Rattle.labels.specs.Labels.{label}
use Rattle.labels.specs.Sheet.{four, header_bytes, tag, offset, sheet}
use Rattle.labels.specs.Looking.{four_at, SheetHolds}
use Rattle.labels.specs.Covers.{Numbered}
use Rattle.labels.proofs.Shape.{well, readable_tags}

-- ---- rows one after the other

joined_append : (f : ℕ → List ℕ) (xs ys : List ℕ) → flat_map f (xs ++ ys) ≡ flat_map f xs ++ flat_map f ys
joined_append f [] ys = refl
joined_append f (x ∷ xs) ys = ap (λ r. f x ++ r) (joined_append f xs ys) ∙ sym (append_assoc (f x) (flat_map f xs) (flat_map f ys))

counting_split : (a v k : ℕ) → range_with_len a (v + k) ≡ range_with_len a v ++ range_with_len (a + v) k
counting_split a zero k = rw (zero-add, add-zero) refl
counting_split a (suc v) k =
    let e : a + 1 + v ≡ a + suc v = omega arith in
    rw suc-add (ap {B = List ℕ} (λ r. a ∷ r) (counting_split (a + 1) v k ∙ ap (λ b. range_with_len (a + 1) v ++ range_with_len b k) e))

counting_more : (v : ℕ) → range_with_len 0 (suc v) ≡ range_with_len 0 v ++ (v ∷ [])
counting_more v = sym (ap (range_with_len 0) (add-one v)) ∙ counting_split 0 v 1 ∙ ap (λ b. range_with_len 0 v ++ (b ∷ [])) (zero-add v)

pub length_before : (f : ℕ → List ℕ) (v : ℕ) → length (flat_map f (range_with_len 0 v)) ≡ sum_to v (λ w. length (f w))
unfolding sum_to
length_before f zero = refl
length_before f (suc v) =
    let ih = length_before f v in
    let e = ap length (ap (flat_map f) (counting_more v) ∙ joined_append f (range_with_len 0 v) (v ∷ [])) in
    let a = length-append (flat_map f (range_with_len 0 v)) (f v ++ []) in
    let b = length-append (f v) [] in
    omega arith

-- the row of v stands between those before it and those after it
pub row_at : (f : ℕ → List ℕ) (n v : ℕ) → v < n → flat_map f (range_with_len 0 n) ≡ flat_map f (range_with_len 0 v) ++ (f v ++ flat_map f (range_with_len (v + 1) (n - suc v)))
row_at f n v h =
    let e : v + suc (n - suc v) ≡ n = omega arith in
    ap (λ m. flat_map f (range_with_len 0 m)) (sym e)
    ∙ ap (flat_map f) (counting_split 0 v (suc (n - suc v)))
    ∙ joined_append f (range_with_len 0 v) (range_with_len (0 + v) (suc (n - suc v)))
    ∙ ap (λ b. flat_map f (range_with_len 0 v) ++ flat_map f (range_with_len b (suc (n - suc v)))) (zero-add v)

-- ---- numbers in four bytes

length_fours : (xs : List ℕ) → length (flat_map four xs) ≡ 4 * length xs
length_fours [] = refl
length_fours (x ∷ xs) = omega (arith, length_fours xs)

later : (xs ys : List ℕ) (o j : ℕ) → o ≡ length xs + j → get_or (xs ++ ys) o 0 ≡ get_or ys j 0
later xs ys o j e = ap (λ i. get_or (xs ++ ys) i 0) e ∙ get_or-append-add xs ys j 0

four_later : (xs ys : List ℕ) (o j : ℕ) → o ≡ length xs + j → four_at (xs ++ ys) o ≡ four_at ys j
four_later xs ys o j e =
    let a = later xs ys o j e in
    let b = later xs ys (o + 1) (j + 1) (omega arith) in
    let c = later xs ys (o + 2) (j + 2) (omega arith) in
    let d = later xs ys (o + 2 + 1) (j + 2 + 1) (omega arith) in
    λ t. (a t + 256 * b t) + 65536 * (c t + 256 * d t)

four_joined : (xs ys : List ℕ) (i : ℕ) → i < length xs → four_at (flat_map four xs ++ ys) (4 * i) ≡ get_or xs i 0
four_joined [] ys i h = absurd (omega arith)
four_joined (x ∷ xs) ys zero h = omega arith
four_joined (x ∷ xs) ys (suc i) h = four_later (four x) (flat_map four xs ++ ys) (4 * suc i) (4 * i) (omega arith) ∙ four_joined xs ys i (omega arith)

-- ---- bytes

bytes_two : (x : ℕ) → x < 65536 → Bytes (two x)
bytes_two x h zero = omega arith
bytes_two x h (suc zero) = omega arith
bytes_two x h (suc (suc i)) = omega arith

bytes_four : (x : ℕ) → x < 65536 * 65536 → Bytes (four x)
bytes_four x h = bytes_append (two (x % 65536)) (two (x / 65536)) (bytes_two (x % 65536) (omega arith)) (bytes_two (x / 65536) (omega arith))

bytes_rows : (f : ℕ → List ℕ) (a k : ℕ) → ((v : ℕ) → v < a + k → Bytes (f v)) → Bytes (flat_map f (range_with_len a k))
bytes_rows f a zero h = λ i. omega arith
bytes_rows f a (suc k) h = bytes_append (f a) (flat_map f (range_with_len (a + 1) k)) (h a (omega arith)) (bytes_rows f (a + 1) k (λ v l. h v (omega arith)))

joined_map : (f : ℕ → List ℕ) (g : ℕ → ℕ) (xs : List ℕ) → flat_map f (map g xs) ≡ flat_map (λ v. f (g v)) xs
joined_map f g [] = refl
joined_map f g (x ∷ xs) = ap (λ r. f (g x) ++ r) (joined_map f g xs)

module _ {parent : ℕ → Option ℕ} {n : ℕ} (word : List ℕ → ℕ → Word) (T : Tree parent n) (L : Lawful word) (number : ℕ) (some : 1 ≤ number) (small : number ≤ most_number) where
  abbrev tag_of : ℕ → List ℕ
  tag_of v = tag parent n word number v

  abbrev begin_of : ℕ → ℕ
  begin_of v = offset parent n word number v

  abbrev the_sheet : List ℕ
  the_sheet = sheet parent n word number

  abbrev offs : List ℕ
  offs = map begin_of (range_with_len 0 (n + 1))

  abbrev head : List ℕ
  head = two number ++ (two n ++ flat_map four offs)

  abbrev body : List ℕ
  body = flat_map tag_of (range_with_len 0 n)

  parts : the_sheet ≡ head ++ body
  unfolding sheet
  parts = refl

  head_long : length head ≡ header_bytes n
  head_long =
      let a = length_fours offs in
      let b = length-map-range_with_len begin_of 0 (n + 1) in
      omega arith

  -- all before the tag of v
  front : ℕ → List ℕ
  front v = head ++ flat_map tag_of (range_with_len 0 v)

  front_long : (v : ℕ) → length (front v) ≡ begin_of v
  unfolding front offset
  front_long v =
      let a = length-append head (flat_map tag_of (range_with_len 0 v)) in
      let b = length_before tag_of v in
      let c = head_long in
      omega arith

  split : (v : ℕ) → v < n → the_sheet ≡ front v ++ (tag_of v ++ flat_map tag_of (range_with_len (v + 1) (n - suc v)))
  unfolding front
  split v h = parts ∙ ap (λ r. head ++ r) (row_at tag_of n v h) ∙ sym (append_assoc head _ _)

  next : (v : ℕ) → begin_of (v + 1) ≡ begin_of v + length (tag_of v)
  unfolding offset
  next v = let e = ap (λ k. sum_to k (λ w. length (tag_of w))) (add-one v) in let s = step (λ w. length (tag_of w)) in omega arith
    where
      step : (f : ℕ → ℕ) → sum_to (suc v) f ≡ sum_to v f + f v
      step f = unfold sum_to in refl

  tags :
      (v : ℕ) → v < n
      → take (begin_of (v + 1) - begin_of v) (drop (begin_of v) the_sheet)
      ≡ tag_of v
  tags v h =
      let e : begin_of (v + 1) - begin_of v ≡ length (tag_of v) = omega (arith, next v) in
      let s = split v h in
      let f = front_long v in
      (λ t. take (e t) (drop (sym f t) (s t)))
      ∙ ap (take (length (tag_of v))) (drop-append_seam (front v) (tag_of v ++ flat_map tag_of (range_with_len (v + 1) (n - suc v))))
      ∙ take-append_seam (tag_of v) (flat_map tag_of (range_with_len (v + 1) (n - suc v)))

  tag_short : (v : ℕ) → v < n → length (tag_of v) ≤ most_tag_bytes
  unfolding tag
  tag_short v h = trip.short number (label parent n word v) (well word T L number v some small h)

  sum_small : (v : ℕ) → v ≤ n → sum_to v (λ w. length (tag_of w)) ≤ most_tag_bytes * v
  unfolding sum_to
  sum_small zero h = omega arith
  sum_small (suc v) h = let a = sum_small v (omega arith) in let b = tag_short v (omega arith) in omega arith

  offset_small : (v : ℕ) → v ≤ n → begin_of v < 65536 * 65536
  unfolding offset
  offset_small v h = let a = sum_small v h in let b = T.few in omega arith

  bytes : Bytes the_sheet
  bytes =
      subst Bytes (sym parts)
      (bytes_append head body
      (bytes_append (two number) (two n ++ flat_map four offs) (bytes_two number (omega arith))
      (bytes_append (two n) (flat_map four offs) (bytes_two n (let b = T.few in omega arith))
      (subst Bytes (sym (joined_map four begin_of (range_with_len 0 (n + 1))))
      (bytes_rows (λ v. four (begin_of v)) 0 (n + 1) (λ v l. bytes_four (begin_of v) (offset_small v (omega arith)))))))
      (bytes_rows tag_of 0 n (λ v l. (readable_tags word T L).bytes number v some small (omega arith))))

  long : length the_sheet ≡ begin_of n
  unfolding front
  long = ap length parts ∙ front_long n

  offsets : (v : ℕ) → v ≤ n → four_at the_sheet (4 + 4 * v) ≡ begin_of v
  unfolding sheet
  offsets v h =
      four_later (two number ++ two n) (flat_map four offs ++ body) (4 + 4 * v) (4 * v) (omega arith)
      ∙ four_joined offs body v (let b = length-map-range_with_len begin_of 0 (n + 1) in omega arith)
      ∙ get_or-map-range_with_len begin_of 0 (n + 1) v v 0 (omega arith) (omega arith)

  pub sheet_holds : SheetHolds parent n word number
  unfolding sheet
  sheet_holds =
      record {
        bytes = bytes;
        long = long;
        tree_number = omega arith;
        nodes = omega arith;
        offsets = offsets;
        tags = tags;
      }

pub all_sheets_hold : Numbered SheetHolds
all_sheets_hold parent n word T L number some small = sheet_holds word T L number some small
