-- The lengths and the turns of a sheet.
use Rattle.std.proofs.Common.{◌≡◌, ℕ, zero, suc, ◌+◌, ◌*◌, ◌<◌, ◌≤◌, Bool, true, false, ◌&&◌, List, [], ◌∷◌, ◌++◌, map, sum, length, get_or, take, sym, refl, ap, ◌∙◌, subst, ⊎_elim, append_assoc, add-one, arith, length-append}
use Rattle.std.specs.List.{range_with_len, flat_map, list_all, sum_by}
use Rattle.std.proofs.lemmas.List.FromFn.{map-range_with_len_more}
use Rattle.std.proofs.lemmas.List.{flat_map_more, take_more, take_all}
use Rattle.std.proofs.lemmas.List.Folds.{list_all-append}
use Rattle.std.proofs.lemmas.List.Sums.{sum-map, sum_by_push}
use Rattle.std.proofs.lemmas.Bool.{cases_lt}
use Rattle.codes.specs.declared.word.Word.{Word}
use Rattle.formats.specs.Limits.{most_tag_bytes}
use Rattle.formats.specs.Layout.{all_below}
use Rattle.formats.specs.Models.{two}
use Rattle.labels.specs.Sizes.{sum_to}
use Rattle.labels.specs.Labels.{label}
use Rattle.labels.specs.Sheet.{four, tag, offset, sheet}
use Rattle.rows.specs.Rows.{parents_in, row_label}
use Rattle.writing.specs.Writes.{Wrote}
use Rattle.writing.specs.Tags.{row_tag}
use Rattle.writing.specs.Sheets.{row_sheet, row_offset, offsets_to, tags_to}
use Rattle.writing.proofs.Puts.{then}

-- ---- tests below a number

and_turns : (a b : Bool) → (a && b) ≡ (b && a)
and_turns true true = refl
and_turns true false = refl
and_turns false true = refl
and_turns false false = refl

-- a test of each number of a row, by what the numbers are
pub all_rows : (test : ℕ → Bool) (xs : List ℕ) (p : ℕ → Bool) → ((v : ℕ) → v < length xs → test (get_or xs v 0) ≡ p v) → list_all test xs ≡ all_below p (length xs)
all_rows test xs p h = sym (ap (list_all test) (take_all (length xs) xs (omega arith))) ∙ go (length xs) (omega arith)
  where
    go : (n : ℕ) → n ≤ length xs → list_all test (take n xs) ≡ all_below p n
    go zero le = refl
    go (suc n) le =
        let ih = go n (omega arith) in
        let e = h n (omega arith) in
        ap (λ k. list_all test (take k xs)) (sym (add-one n))
        ∙ ap (list_all test) (take_more xs n 0 (omega arith))
        ∙ list_all-append test (take n xs) (get_or xs n 0 ∷ [])
        ∙ ap (λ b. b && (test (get_or xs n 0) && true)) ih
        ∙ ap (λ b. all_below p n && (b && true)) e
        ∙ ap (λ b. all_below p n && b) (and_turns (p n) true)
        ∙ and_turns (all_below p n) (p n)

-- ---- lists by a count

pub counting_last : (a n j : ℕ) → a + n ≡ j → range_with_len a (suc n) ≡ range_with_len a n ++ j ∷ []
counting_last a zero j e = let same : a ≡ j = omega arith in ap (λ k. k ∷ []) same
counting_last a (suc n) j e = ap (λ l. a ∷ l) (counting_last (a + 1) n j (omega arith))

pub joined_count : (g : ℕ → List ℕ) (k : ℕ) → flat_map g (range_with_len 0 (k + 1)) ≡ flat_map g (range_with_len 0 k) ++ g k
joined_count g k = ap (λ (n : ℕ). flat_map g (range_with_len 0 n)) (add-one k) ∙ ap (flat_map g) (counting_last 0 k k (omega arith)) ∙ sym (flat_map_more g [] (range_with_len 0 k) k)

module _ (f : List ℕ → ℕ → Word) (up : List ℕ) (number : ℕ) where
  tag_is : (v : ℕ) → tag (parents_in up) (length up) f number v ≡ row_tag f up number v
  unfolding tag row_tag row_label
  tag_is v = refl

  pub tags_more : (k : ℕ) → tags_to f up number (k + 1) ≡ tags_to f up number k ++ row_tag f up number k
  unfolding tags_to
  tags_more k = joined_count (tag (parents_in up) (length up) f number) k ∙ ap (λ (bs : List ℕ). flat_map (tag (parents_in up) (length up) f number) (range_with_len 0 k) ++ bs) (tag_is k)

  pub offsets_more : (k : ℕ) → offsets_to f up number (k + 1) ≡ offsets_to f up number k ++ four (row_offset f up number k)
  unfolding offsets_to
  offsets_more k =
      ap (flat_map four) (map-range_with_len_more (offset (parents_in up) (length up) f number) 0 k k (omega arith))
      ∙ sym (flat_map_more four [] (map (offset (parents_in up) (length up) f number) (range_with_len 0 k)) (offset (parents_in up) (length up) f number k))

  pub no_tags : tags_to f up number 0 ≡ []
  unfolding tags_to
  no_tags = refl

  pub no_offsets : offsets_to f up number 0 ≡ []
  unfolding offsets_to
  no_offsets = refl

  pub length_offsets : (k : ℕ) → length (offsets_to f up number k) ≡ 4 * k
  length_offsets zero = ap length no_offsets
  length_offsets (suc k) =
      let a = length-append (offsets_to f up number k) (four (row_offset f up number k)) in
      let b = length_offsets k in
      let c = ap length (offsets_more k) in
      let d = ap (λ (n : ℕ). length (offsets_to f up number n)) (add-one k) in
      omega arith

  -- an offset is the header and the tags before
  offset_sum : (k : ℕ) → length (tags_to f up number k) ≡ sum_to k (λ w. length (tag (parents_in up) (length up) f number w))
  unfolding sum_to
  offset_sum zero = ap length no_tags
  offset_sum (suc k) =
      let a = length-append (tags_to f up number k) (row_tag f up number k) in
      let b = offset_sum k in
      let c = ap length (tags_more k) in
      let d = ap (λ (n : ℕ). length (tags_to f up number n)) (add-one k) in
      let e = ap length (tag_is k) in
      omega arith

  pub offset_is : (k : ℕ) → row_offset f up number k ≡ 8 + 4 * length up + length (tags_to f up number k)
  unfolding offset
  offset_is k = let a = offset_sum k in omega arith

  pub offset_more : (v end size : ℕ) → end ≡ row_offset f up number v → size ≡ length (row_tag f up number v) → end + size ≡ row_offset f up number (v + 1)
  offset_more v end size e s =
      let a = offset_is v in
      let b = offset_is (v + 1) in
      let c = ap length (tags_more v) in
      let d = length-append (tags_to f up number v) (row_tag f up number v) in
      omega arith

  pub offset_rises : (n k : ℕ) → k ≤ n → row_offset f up number k ≤ row_offset f up number n
  offset_rises zero k h = let e : k ≡ 0 = omega arith in rw e (omega arith)
  offset_rises (suc n) k h =
      let ih = offset_rises n k in
      let a = offset_more n (row_offset f up number n) (length (row_tag f up number n)) refl refl in
      let d = ap (row_offset f up number) (add-one n) in
      ⊎_elim (λ l. let x = ih (omega arith) in omega arith) (λ l. let e : k ≡ suc n = omega arith in rw e (omega arith)) (cases_lt k (suc n))

  -- the parts of a sheet, one after the other
  pub sheet_parts : row_sheet f up number ≡ ((two number ++ two (length up)) ++ offsets_to f up number (length up + 1)) ++ tags_to f up number (length up)
  unfolding sheet offsets_to tags_to
  sheet_parts =
      sym (append_assoc (two number ++ two (length up)) (flat_map four (map (offset (parents_in up) (length up) f number) (range_with_len 0 (length up + 1)))) (flat_map (tag (parents_in up) (length up) f number) (range_with_len 0 (length up)))
      ∙ append_assoc (two number) (two (length up)) (flat_map four (map (offset (parents_in up) (length up) f number) (range_with_len 0 (length up + 1))) ++ flat_map (tag (parents_in up) (length up) f number) (range_with_len 0 (length up))))

  pub sheet_long : length (row_sheet f up number) ≡ 8 + 4 * length up + length (tags_to f up number (length up))
  sheet_long =
      let s = ap length sheet_parts in
      let a = length-append ((two number ++ two (length up)) ++ offsets_to f up number (length up + 1)) (tags_to f up number (length up)) in
      let b = length-append (two number ++ two (length up)) (offsets_to f up number (length up + 1)) in
      let c = length_offsets (length up + 1) in
      omega arith

  pub tags_longer : (n k : ℕ) → k ≤ n → length (tags_to f up number k) ≤ length (tags_to f up number n)
  tags_longer n k le = omega (arith, offset_rises n k le, offset_is n, offset_is k)

  pub tags_sum : (v : ℕ) → length (tags_to f up number (v + 1)) ≡ length (tags_to f up number v) + length (row_tag f up number v)
  tags_sum v = ap (λ (bs : List ℕ). length bs) (tags_more v) ∙ length-append (tags_to f up number v) (row_tag f up number v)

  pub tags_next : (v : ℕ) → v < length up → length (tags_to f up number v) + length (row_tag f up number v) ≤ length (tags_to f up number (length up))
  tags_next v l = omega (arith, tags_sum v, tags_longer (length up) (v + 1) (omega arith))

  -- the sum of the sizes
  sizes_by : (k : ℕ) → sum_by (λ v. length (row_tag f up number v)) (range_with_len 0 k) ≡ length (tags_to f up number k)
  sizes_by zero = ap (λ (bs : List ℕ). length bs) (sym no_tags)
  sizes_by (suc k) =
      let size : ℕ → ℕ = λ v. length (row_tag f up number v) in
      ap (sum_by size) (counting_last 0 k k (omega arith)) ∙ sum_by_push size (range_with_len 0 k) k ∙ ap (λ (x : ℕ). x + size k) (sizes_by k)
      ∙ sym (tags_sum k) ∙ ap (λ n. length (tags_to f up number n)) (add-one k)

  pub sizes_sum : (k : ℕ) → sum (map (λ v. length (row_tag f up number v)) (range_with_len 0 k)) ≡ length (tags_to f up number k)
  sizes_sum k = sum-map (λ v. length (row_tag f up number v)) (range_with_len 0 k) ∙ sizes_by k

  pub sizes_small : ((v : ℕ) → v < length up → length (row_tag f up number v) ≤ most_tag_bytes) → (k : ℕ) → k ≤ length up → length (tags_to f up number k) ≤ most_tag_bytes * k
  sizes_small h zero le = omega (arith, ap (λ (bs : List ℕ). length bs) no_tags)
  sizes_small h (suc k) le =
      let ih = sizes_small h k (omega arith) in
      let a = tags_sum k in
      let b = h k (omega arith) in
      let e = ap (λ n. length (tags_to f up number n)) (add-one k) in
      omega arith

  -- one more offset, one more tag
  pub put_offset : (v end at : ℕ) {xs ys zs : List ℕ} → end ≡ row_offset f up number v → at ≡ 4 * v → Wrote 0 (offsets_to f up number v) xs ys → Wrote at (four end) ys zs
      → Wrote 0 (offsets_to f up number (v + 1)) xs zs
  put_offset v end at {xs} {ys} {zs} e ea p q =
      subst (λ (ws : List ℕ). Wrote 0 ws xs zs) (ap (λ (x : ℕ). offsets_to f up number v ++ four x) e ∙ sym (offsets_more v)) (then p q (omega (arith, length_offsets v)))

  pub put_next : (v at : ℕ) {xs ys zs : List ℕ} → at ≡ length (tags_to f up number v) → Wrote 0 (tags_to f up number v) xs ys → Wrote at (row_tag f up number v) ys zs
      → Wrote 0 (tags_to f up number (v + 1)) xs zs
  put_next v at {xs} {ys} {zs} e p q = subst (λ (ws : List ℕ). Wrote 0 ws xs zs) (sym (tags_more v)) (then p q (omega arith))

-- how many fields a label has, by the row of counts
pub label_count : (f : List ℕ → ℕ → Word) (up row : List ℕ) (v : ℕ) → get_or row v 0 ≡ length (row_label f up v) → get_or row v 0 ≡ length (label (parents_in up) (length up) f v)
unfolding row_label
label_count f up row v e = e
