-- Where each offset and each tag stands on a sheet.
use Rattle.std.proofs.Common.{◌≡◌, ℕ, zero, suc, ◌+◌, ◌-◌, ◌*◌, ◌<◌, ◌≤◌, List, [], ◌∷◌, ◌++◌, map, length, get_or, take, Ok, Option, sym, refl, ap, ◌∙◌, ap₂, append_assoc, add-one, arith, length-append}
use Rattle.std.specs.List.{between, range_with_len, flat_map}
use Rattle.std.proofs.lemmas.List.FromFn.{length-map-range_with_len, get_or-map-range_with_len}
use Rattle.std.proofs.lemmas.List.{take_at, drop_at, get_or_append_left, get_or-append_right}
use Rattle.codes.specs.declared.word.Word.{Word}
use Rattle.formats.specs.Models.{two}
use Rattle.labels.specs.Sizes.{sum_to}
use Rattle.labels.specs.Sheet.{four, tag, offset, sheet}
use Rattle.writing.proofs.Tagged.{joined_append}
use Rattle.writing.proofs.Sheeted.{joined_count}
use Rattle.sheets.specs.LookingUp.{nodes_of, offset_at, look_up_answer}
use Rattle.sheets.proofs.Looked.{found}

-- four bytes hold a number below 2 ^ 32, and no more is asked of the last
pub whole_four : (x : ℕ) → get_or (four x) 0 0 + 256 * get_or (four x) 1 0 + 65536 * (get_or (four x) 2 0 + 256 * get_or (four x) 3 0) ≡ x
whole_four x = omega arith

length_fours : (xs : List ℕ) → length (flat_map four xs) ≡ 4 * length xs
length_fours [] = refl
length_fours (x ∷ xs) = let a = length_fours xs in omega arith

-- byte j of number i
fours_at : (xs rest : List ℕ) (i j : ℕ) → i < length xs → j < 4 → get_or (flat_map four xs ++ rest) (4 * i + j) 0 ≡ get_or (four (get_or xs i 0)) j 0
fours_at [] rest i j l h = absurd (omega arith)
fours_at (x ∷ xs) rest zero j l h =
    let e : 4 * 0 + j ≡ j = omega arith in
    ap (λ n. get_or (four x ++ (flat_map four xs ++ rest)) n 0) e ∙ get_or_append_left (four x) (flat_map four xs ++ rest) 0 j h
fours_at (x ∷ xs) rest (suc i) j l h =
    let e : 4 * suc i + j - 4 ≡ 4 * i + j = omega arith in
    let le : 4 ≤ 4 * suc i + j = omega arith in
    get_or-append_right (four x) (flat_map four xs ++ rest) 4 (4 * suc i + j) 0 refl le ∙ ap (λ n. get_or (flat_map four xs ++ rest) n 0) e ∙ fours_at xs rest i j (omega arith) h

-- numbers counted up to v, then v, then on
counting_split : (a v k : ℕ) → range_with_len a (v + suc k) ≡ range_with_len a v ++ (a + v) ∷ range_with_len (a + v + 1) k
counting_split a zero k =
    let e : 0 + suc k ≡ suc k = omega arith in
    let z : a ≡ a + 0 = omega arith in
    ap (range_with_len a) e ∙ ap (λ m. m ∷ range_with_len (m + 1) k) z
counting_split a (suc v) k =
    let e : suc v + suc k ≡ suc (v + suc k) = omega arith in
    let z : a + 1 + v ≡ a + suc v = omega arith in
    ap (range_with_len a) e ∙ ap (λ l. a ∷ l) (counting_split (a + 1) v k ∙ ap (λ m. range_with_len (a + 1) v ++ m ∷ range_with_len (m + 1) k) z)

module _ (parent : ℕ → Option ℕ) (n : ℕ) (word : List ℕ → ℕ → Word) (number : ℕ) where
  abbrev T : ℕ → List ℕ
  T = tag parent n word number

  abbrev O : ℕ → ℕ
  O = offset parent n word number

  -- the header, and the tags before k
  abbrev front : List ℕ
  front = two number ++ (two n ++ flat_map four (map (offset parent n word number) (range_with_len 0 (n + 1))))

  abbrev tags : ℕ → List ℕ
  tags k = flat_map (tag parent n word number) (range_with_len 0 k)

  long_front : length front ≡ 8 + 4 * n
  long_front =
      let a = length_fours (map (offset parent n word number) (range_with_len 0 (n + 1))) in
      let b = length-map-range_with_len (offset parent n word number) 0 (n + 1) in
      omega arith

  sheet_is : sheet parent n word number ≡ front ++ tags n
  unfolding sheet
  sheet_is =
      sym (append_assoc (two number) (two n ++ flat_map four (map (offset parent n word number) (range_with_len 0 (n + 1)))) (flat_map (tag parent n word number) (range_with_len 0 n))
      ∙ ap (λ (bs : List ℕ). two number ++ bs) (append_assoc (two n) (flat_map four (map (offset parent n word number) (range_with_len 0 (n + 1)))) (flat_map (tag parent n word number) (range_with_len 0 n))))

  tags_long : (k : ℕ) → length (tags k) ≡ sum_to k (λ w. length (tag parent n word number w))
  unfolding sum_to
  tags_long zero = refl
  tags_long (suc k) =
      let a = length-append (flat_map (tag parent n word number) (range_with_len 0 k)) (tag parent n word number k) in
      let b = tags_long k in
      let c = ap length (joined_count (tag parent n word number) k) in
      let d = ap (λ (m : ℕ). length (flat_map (tag parent n word number) (range_with_len 0 m))) (add-one k) in
      omega arith

  offset_is : (k : ℕ) → O k ≡ 8 + 4 * n + length (tags k)
  unfolding offset
  offset_is k = let a = tags_long k in omega arith

  offset_next : (k : ℕ) → O (k + 1) ≡ O k + length (T k)
  offset_next k =
      let a = offset_is k in
      let b = offset_is (k + 1) in
      let c = ap length (joined_count (tag parent n word number) k) in
      let d = length-append (flat_map (tag parent n word number) (range_with_len 0 k)) (tag parent n word number k) in
      omega arith

  split_tags : (v k : ℕ) → v + suc k ≡ n → tags n ≡ tags v ++ (T v ++ flat_map (tag parent n word number) (range_with_len (v + 1) k))
  split_tags v k e =
      let z : 0 + v ≡ v = omega arith in
      ap (λ (m : ℕ). flat_map (tag parent n word number) (range_with_len 0 m)) (sym e)
      ∙ ap (flat_map (tag parent n word number)) (counting_split 0 v k ∙ ap (λ m. range_with_len 0 v ++ m ∷ range_with_len (m + 1) k) z)
      ∙ joined_append (tag parent n word number) (range_with_len 0 v) (v ∷ range_with_len (v + 1) k)

  pub sheet_long : length (sheet parent n word number) ≡ O n
  sheet_long =
      let a = ap length sheet_is in
      let b = length-append front (tags n) in
      let c = long_front in
      let d = offset_is n in
      omega arith

  nodes_are : nodes_of (sheet parent n word number) ≡ n
  unfolding sheet
  nodes_are = omega arith

  -- byte j of offset v
  byte : (v j : ℕ) → v < n + 1 → j < 4 → get_or (sheet parent n word number) (4 + 4 * v + j) 0 ≡ get_or (four (O v)) j 0
  unfolding sheet
  byte v j l h =
      let m = length-map-range_with_len (offset parent n word number) 0 (n + 1) in
      let here : get_or (map (offset parent n word number) (range_with_len 0 (n + 1))) v 0 ≡ O v = get_or-map-range_with_len (offset parent n word number) 0 (n + 1) v v 0 l (omega arith) in
      let le : 4 ≤ 4 + 4 * v + j = omega arith in
      let e : 4 + 4 * v + j - 4 ≡ 4 * v + j = omega arith in
      let rest = flat_map four (map (offset parent n word number) (range_with_len 0 (n + 1))) ++ flat_map (tag parent n word number) (range_with_len 0 n) in
      get_or-append_right (two number ++ two n) rest 4 (4 + 4 * v + j) 0 refl le ∙ ap (λ (i : ℕ). get_or rest i 0) e
      ∙ fours_at (map (offset parent n word number) (range_with_len 0 (n + 1))) (flat_map (tag parent n word number) (range_with_len 0 n)) v j (omega arith) h
      ∙ ap (λ (x : ℕ). get_or (four x) j 0) here

  -- offset v, as the sheet has it
  offset_there : (v : ℕ) → v < n + 1 → offset_at (sheet parent n word number) v ≡ O v
  offset_there v l =
      let b : (j : ℕ) → j < 4 → get_or (sheet parent n word number) (4 + 4 * v + j) 0 ≡ get_or (four (O v)) j 0 = λ j h. byte v j l h in
      let w = whole_four (O v) in
      let e0 = b 0 (omega arith) in
      let e1 = b 1 (omega arith) in
      let e2 = b 2 (omega arith) in
      let e3 = b 3 (omega arith) in
      let p0 : get_or (sheet parent n word number) (4 + 4 * v) 0 ≡ get_or (sheet parent n word number) (4 + 4 * v + 0) 0 = ap (λ (i : ℕ). get_or (sheet parent n word number) i 0) (omega arith) in
      let p3 : get_or (sheet parent n word number) (4 + 4 * v + 2 + 1) 0 ≡ get_or (sheet parent n word number) (4 + 4 * v + 3) 0 = ap (λ (i : ℕ). get_or (sheet parent n word number) i 0) (omega arith) in
      omega arith

  part_is : (v : ℕ) → v < n → between (O v) (O (v + 1)) (sheet parent n word number) ≡ T v
  part_is v l =
      let e : v + suc (n - v - 1) ≡ n = omega arith in
      let later = flat_map (tag parent n word number) (range_with_len (v + 1) (n - v - 1)) in
      let s : sheet parent n word number ≡ (front ++ tags v) ++ (T v ++ later) = sheet_is ∙ ap (λ (bs : List ℕ). front ++ bs) (split_tags v (n - v - 1) e) ∙ sym (append_assoc front (tags v) (T v ++ later)) in
      let a = long_front in
      let b = length-append front (tags v) in
      let c = offset_is v in
      let d = offset_next v in
      let at_v : length (front ++ tags v) ≡ O v = omega arith in
      let long : length (T v) ≡ O (v + 1) - O v = omega arith in
      ap (between (O v) (O (v + 1))) s ∙ ap (take (O (v + 1) - O v)) (drop_at (front ++ tags v) (T v ++ later) (O v) at_v) ∙ take_at (T v) later (O (v + 1) - O v) long

  rises : (v k : ℕ) → v + k ≡ n → O v ≤ O n
  rises v zero e = let s : v ≡ n = omega arith in rw s (omega arith)
  rises v (suc k) e = let a = rises (v + 1) k (omega arith) in let b = offset_next v in omega arith

  -- looking up v on the sheet gives v's tag
  pub looked_up : (v : ℕ) → v < n → look_up_answer (sheet parent n word number) v ≡ Ok (tag parent n word number v)
  looked_up v l =
      let ns = nodes_are in
      let long = sheet_long in
      let first = offset_is v in
      let last = offset_is n in
      let o = offset_there v (omega arith) in
      let o1 = offset_there (v + 1) (omega arith) in
      let up = offset_next v in
      let r = rises (v + 1) (n - (v + 1)) (omega arith) in
      found (sheet parent n word number) v (omega arith) (omega arith) (omega arith) (omega arith) (omega arith)
      ∙ ap₂ (λ (x y : ℕ). Ok (between x y (sheet parent n word number))) o o1
      ∙ ap (λ (bs : List ℕ). Ok bs) (part_is v l)
