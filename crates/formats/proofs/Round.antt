-- The bytes of what a readable row reads as are that row.
use Rattle.std.proofs.Common.{◌≡◌, ℕ, zero, suc, ◌+◌, ◌-◌, ◌*◌, ◌/◌, ◌%◌, ◌^◌, ◌<◌, ◌≤◌, false, List, [], ◌∷◌, ◌++◌, map, length, get_or, take, drop, sym, refl, ap, ◌∙◌, ⊎_elim, add-one, arith, length-drop, take-append-drop, get_or-drop}
use Rattle.std.proofs.lemmas.Grind.{common_steps}
use Rattle.std.proofs.lemmas.Bool.Decides.{nat_tests}
use Rattle.std.specs.List.{range_with_len, between, flat_map}
use Rattle.std.proofs.lemmas.Nat.{shr_split, shl-shr, pow-add}
use Rattle.std.proofs.lemmas.List.FromFn.{fill_by_all, length-map-range_with_len}
use Rattle.std.proofs.lemmas.List.Edits.{between_none}
use Rattle.std.proofs.lemmas.List.{drop_more, drop-drop, get_or_append_left, get_or-append_right, length-append, get_or_past}
use Rattle.std.proofs.lemmas.Bool.{cases_lt}
use Rattle.formats.specs.Layout.{pair_at, tree_of, count_of, head_of, bits_of, end_at, begin_at, spare_of, bit_at}
use Rattle.formats.proofs.Readable.{Readable}
use Rattle.formats.specs.Label.{words_in, depths_in, body_in}
use Rattle.formats.specs.Models.{two, ends_from, tag_bytes, field_at, label_of}
use Rattle.formats.proofs.Fields.{words_are_at, depths_are_at}
use Rattle.formats.specs.Words.{word_at, bits_at, byte_at, pack, digit, digit_at}
use Rattle.formats.proofs.Bits.{length_bits, get_d_bits, digit_bit}
use Rattle.formats.proofs.Spans.{span, upward}

two_pair : (a b : ℕ) → a < 256 → b < 256 → two (a + 256 * b) ≡ a ∷ b ∷ []
two_pair a b h g = grind (arith, nat_tests, common_steps)

between_cons : (bs : List ℕ) (a e : ℕ) → a < e → e ≤ length bs → between a e bs ≡ get_or bs a 0 ∷ between (a + 1) e bs
between_cons bs a e h g =
    let z : e - a ≡ suc (e - (a + 1)) = omega arith in
    ap (take (e - a)) (drop_more bs a 0 (omega arith)) ∙ ap (λ n. take n (get_or bs a 0 ∷ drop (a + 1) bs)) z

drop_split : (bs : List ℕ) (a e : ℕ) → a ≤ e → drop a bs ≡ between a e bs ++ drop e bs
drop_split bs a e h =
    let z : a + (e - a) ≡ e = omega arith in
    sym (take-append-drop (e - a) (drop a bs)) ∙ ap (λ r. between a e bs ++ r) (drop-drop (e - a) a bs ∙ ap (λ n. drop n bs) z)

pairs : (bs : List ℕ) → ((i : ℕ) → get_or bs i 0 < 256) → (o n i : ℕ) → o + 2 * i + 2 * n ≤ length bs → flat_map two (map (λ j. pair_at bs (o + 2 * j)) (range_with_len i n)) ≡ between (o + 2 * i) (o + 2 * i + 2 * n) bs
pairs bs small o zero i h =
    let z : o + 2 * i + 2 * 0 ≡ o + 2 * i = omega arith in
    sym (ap (λ e. between (o + 2 * i) e bs) z ∙ between_none bs (o + 2 * i))
pairs bs small o (suc n) i h =
    let a = o + 2 * i in
    let e = o + 2 * i + 2 * suc n in
    let x : o + 2 * (i + 1) ≡ o + 2 * i + 1 + 1 = omega arith in
    let y : o + 2 * (i + 1) + 2 * n ≡ o + 2 * i + 2 * suc n = omega arith in
    ap (λ w. w ++ flat_map two (map (λ j. pair_at bs (o + 2 * j)) (range_with_len (i + 1) n))) (two_pair (get_or bs (o + 2 * i) 0) (get_or bs (o + 2 * i + 1) 0) (small _) (small _))
    ∙ ap (λ w. get_or bs (o + 2 * i) 0 ∷ get_or bs (o + 2 * i + 1) 0 ∷ w) (pairs bs small o n (i + 1) (omega arith) ∙ (λ t. between (x t) (y t) bs))
    ∙ ap (λ w. get_or bs (o + 2 * i) 0 ∷ w) (sym (between_cons bs (o + 2 * i + 1) (o + 2 * i + 2 * suc n) (omega arith) (omega arith)))
    ∙ sym (between_cons bs (o + 2 * i) (o + 2 * i + 2 * suc n) (omega arith) (omega arith))

bits_join : (bs : List ℕ) (b x y : ℕ) → bits_at bs b x ++ bits_at bs (b + x) y ≡ bits_at bs b (x + y)
bits_join bs b x y =
    fill_by_all (λ t. bit_at bs (b + t)) (bits_at bs b x ++ bits_at bs (b + x) y) (x + y) false
    (length-append (bits_at bs b x) (bits_at bs (b + x) y) ∙ (λ t. length_bits bs b x t + length_bits bs (b + x) y t))
    (λ k l.
    ⊎_elim
    (λ h. get_or_append_left (bits_at bs b x) (bits_at bs (b + x) y) false k (omega (arith, length_bits bs b x)) ∙ get_d_bits bs b x k h)
    (λ h.
    let z : b + x + (k - x) ≡ b + k = omega arith in
    get_or-append_right (bits_at bs b x) (bits_at bs (b + x) y) x k false (length_bits bs b x) h ∙ get_d_bits bs (b + x) y (k - x) (omega arith) ∙ ap (bit_at bs) z)
    (cases_lt k x))

module _ (bs : List ℕ) (ok : Readable bs) where
  begin_mono : (i j : ℕ) → i ≤ j → j ≤ count_of bs → begin_at bs i ≤ begin_at bs j
  begin_mono zero j h g = omega arith
  begin_mono (suc i) zero h g = absurd (omega arith)
  begin_mono (suc i) (suc j) h g = upward bs ok j i (omega arith) (omega arith)

  next : (i : ℕ) → begin_at bs (i + 1) ≡ end_at bs i
  next i = ap (begin_at bs) (add-one i)

  word_long : (i : ℕ) → i < count_of bs → begin_at bs i + length (word_at bs i) ≡ end_at bs i
  word_long i l = omega (arith, length_bits (drop (head_of bs) bs) (begin_at bs i) (end_at bs i - begin_at bs i), (span bs ok i l).some)

  ends_are : (n i : ℕ) → i + n ≤ count_of bs → ends_from (begin_at bs i) (map (word_at bs) (range_with_len i n)) ≡ map (end_at bs) (range_with_len i n)
  ends_are zero i h = refl
  ends_are (suc n) i h =
      let e = word_long i (omega arith) in
      (λ t. e t ∷ ends_from (e t) (map (word_at bs) (range_with_len (i + 1) n)))
      ∙ ap (λ r. end_at bs i ∷ r) (ap (λ b. ends_from b (map (word_at bs) (range_with_len (i + 1) n))) (sym (next i)) ∙ ends_are n (i + 1) (omega arith))

  words_are : (n i : ℕ) → i + n ≤ count_of bs → flat_map (λ w. w) (map (word_at bs) (range_with_len i n)) ≡ bits_at (drop (head_of bs) bs) (begin_at bs i) (begin_at bs (i + n) - begin_at bs i)
  words_are zero i h =
      let z : i + 0 ≡ i = omega arith in
      let y : begin_at bs (i + 0) - begin_at bs i ≡ 0 = omega (arith, ap (begin_at bs) z) in
      sym (ap (bits_at (drop (head_of bs) bs) (begin_at bs i)) y)
  words_are (suc n) i h =
      let s = span bs ok i (omega arith) in
      let z : i + 1 + n ≡ i + suc n = omega arith in
      let up = begin_mono (i + 1) (i + suc n) (omega arith) h in
      let x : begin_at bs (i + 1) ≡ begin_at bs i + (end_at bs i - begin_at bs i) = omega (arith, next i, s.some) in
      let y : begin_at bs (i + 1 + n) - begin_at bs (i + 1) ≡ begin_at bs (i + suc n) - begin_at bs (i + 1) = ap (λ j. begin_at bs j - begin_at bs (i + 1)) z in
      let v : (end_at bs i - begin_at bs i) + (begin_at bs (i + suc n) - begin_at bs (i + 1)) ≡ begin_at bs (i + suc n) - begin_at bs i = omega (arith, next i, s.some, up) in
      ap (λ r. word_at bs i ++ r) (words_are n (i + 1) (omega arith) ∙ ap (bits_at (drop (head_of bs) bs) (begin_at bs (i + 1))) y ∙ ap (λ b. bits_at (drop (head_of bs) bs) b (begin_at bs (i + suc n) - begin_at bs (i + 1))) x)
      ∙ bits_join (drop (head_of bs) bs) (begin_at bs i) (end_at bs i - begin_at bs i) (begin_at bs (i + suc n) - begin_at bs (i + 1))
      ∙ ap (bits_at (drop (head_of bs) bs) (begin_at bs i)) v

-- a bit below s is 0 where the low s bits are
zero_bit : (b s e d : ℕ) → s ≡ d + (1 + e) → b % 2 ^ s ≡ 0 → b / 2 ^ e % 2 ≡ 0
zero_bit b s e d q h =
    let c = b / 2 ^ s in
    let w : 2 ^ s ≡ 2 ^ d * (2 * 2 ^ e) = ap (λ n. 2 ^ n) q ∙ pow-add 2 d (1 + e) ∙ ap (λ n. 2 ^ d * n) (pow-add 2 1 e) in
    let v : b ≡ b / 2 ^ s * 2 ^ s = omega (arith, shr_split b s) in
    let u : b ≡ (b / 2 ^ s * 2 ^ d * 2) * 2 ^ e = v ∙ ap (λ n. b / 2 ^ s * n) w ∙ omega arith in
    ap (λ n. n / 2 ^ e % 2) u ∙ ap (λ n. n % 2) (shl-shr (b / 2 ^ s * 2 ^ d * 2) e) ∙ omega arith

-- a byte is made of its bits
byte_sum : (b : ℕ) → b < 256 → b ≡ b / 128 % 2 * 128 + b / 64 % 2 * 64 + b / 32 % 2 * 32 + b / 16 % 2 * 16 + b / 8 % 2 * 8 + b / 4 % 2 * 4 + b / 2 % 2 * 2 + b / 1 % 2
byte_sum b h = omega arith

module _ (body : List ℕ) (l : ℕ) (small : (i : ℕ) → get_or body i 0 < 256) (size : length body ≡ (l + 7) / 8) (some : 0 < l) (clean : get_or body (length body - 1) 0 % 2 ^ spare_of l ≡ 0) where
  at_bit : (j : ℕ) → j < 8 * length body → digit_at (bits_at body 0 l) j ≡ get_or body (j / 8) 0 / 2 ^ (7 - j % 8) % 2
  at_bit j h =
      ⊎_elim
      (λ low. let z : 0 + j ≡ j = omega arith in ap digit (get_d_bits body 0 l j low ∙ ap (bit_at body) z) ∙ digit_bit (get_or body (j / 8) 0 / 2 ^ (7 - j % 8) % 2) (omega arith))
      (λ past.
      let z : length body - 1 ≡ j / 8 = omega arith in
      ap digit (get_or_past (bits_at body 0 l) j false (omega (arith, length_bits body 0 l)))
      ∙ sym (zero_bit (get_or body (j / 8) 0) (spare_of l) (7 - j % 8) (spare_of l - (1 + (7 - j % 8))) (omega arith) (ap (λ i. get_or body i 0 % 2 ^ spare_of l) (sym z) ∙ clean)))
      (cases_lt j l)

  bit_here : (q r : ℕ) → q < length body → r < 8 → digit_at (bits_at body 0 l) (8 * q + r) ≡ get_or body q 0 / 2 ^ (7 - r) % 2
  bit_here q r h g =
      let x : (8 * q + r) / 8 ≡ q = omega arith in
      let y : (8 * q + r) % 8 ≡ r = omega arith in
      at_bit (8 * q + r) (omega arith) ∙ (λ t. get_or body (x t) 0 / 2 ^ (7 - y t) % 2)

  byte_is : (q : ℕ) → q < length body → get_or body q 0 ≡ byte_at (bits_at body 0 l) q
  byte_is q h =
      byte_sum (get_or body q 0) (small q)
      ∙ sym (λ t. bit_here q 0 h (omega arith) t * 128 + bit_here q 1 h (omega arith) t * 64 + bit_here q 2 h (omega arith) t * 32 + bit_here q 3 h (omega arith) t * 16 + bit_here q 4 h (omega arith) t * 8 + bit_here q 5 h (omega arith) t * 4 + bit_here q 6 h (omega arith) t * 2 + bit_here q 7 h (omega arith) t)

  pack_is : pack (bits_at body 0 l) ≡ body
  pack_is =
      sym (fill_by_all (byte_at (bits_at body 0 l)) body ((length (bits_at body 0 l) + 7) / 8) 0
      (size ∙ ap (λ n. (n + 7) / 8) (sym (length_bits body 0 l)))
      (λ k g. byte_is k (omega (arith, length_bits body 0 l))))

module _ (bs : List ℕ) (small : (i : ℕ) → get_or bs i 0 < 256) (ok : Readable bs) where
  depths_are : flat_map two (depths_in (label_of bs)) ≡ between (3 + 2 * count_of bs) (3 * count_of bs + 4) bs
  depths_are =
      let x : 3 + 2 * count_of bs + 2 * 0 ≡ 3 + 2 * count_of bs = omega arith in
      let y : 3 + 2 * count_of bs + 2 * 0 + 2 * ((count_of bs + 1) / 2) ≡ 3 * count_of bs + 4 = omega (arith, ok.odd) in
      ap (flat_map two) (depths_are_at bs ok.odd)
      ∙ pairs bs small (3 + 2 * count_of bs) ((count_of bs + 1) / 2) 0 (omega (arith, ok.odd, ok.size)) ∙ (λ t. between (x t) (y t) bs)

  ends_two : flat_map two (ends_from 0 (words_in (label_of bs))) ≡ between 3 (3 + 2 * count_of bs) bs
  ends_two = ap (λ ws. flat_map two (ends_from 0 ws)) (words_are_at bs (count_of bs) 0) ∙ ap (flat_map two) (ends_are bs ok (count_of bs) 0 (omega arith)) ∙ pairs bs small 3 (count_of bs) 0 (omega (arith, ok.size))

  pub bits_are : body_in (label_of bs) ≡ bits_at (drop (head_of bs) bs) 0 (bits_of bs)
  bits_are =
      let z : 0 + count_of bs ≡ suc (count_of bs - 1) = omega (arith, ok.odd) in
      let e : begin_at bs (0 + count_of bs) - 0 ≡ bits_of bs = omega (arith, ap (begin_at bs) z) in
      ap (flat_map (λ w. w)) (words_are_at bs (count_of bs) 0) ∙ words_are bs ok (count_of bs) 0 (omega arith) ∙ ap (bits_at (drop (head_of bs) bs) 0) e

  body_is : pack (body_in (label_of bs)) ≡ drop (head_of bs) bs
  body_is =
      let s = span bs ok (count_of bs - 1) (omega (arith, ok.odd)) in
      let long : length (drop (head_of bs) bs) ≡ (bits_of bs + 7) / 8 = omega (arith, length-drop (head_of bs) bs, ok.size) in
      let place : head_of bs + (length (drop (head_of bs) bs) - 1) ≡ length bs - 1 = omega (arith, length-drop (head_of bs) bs, ok.size, s.some) in
      ap pack bits_are
      ∙ pack_is (drop (head_of bs) bs) (bits_of bs) (λ i. omega (arith, get_or-drop (head_of bs) bs i 0, small (head_of bs + i))) long (omega (arith, s.some))
      (ap (λ b. b % 2 ^ spare_of (bits_of bs)) (get_or-drop (head_of bs) bs (length (drop (head_of bs) bs) - 1) 0 ∙ ap (λ i. get_or bs i 0) place) ∙ ok.spare)

  parts_are : bs ≡ get_or bs 0 0 ∷ get_or bs 1 0 ∷ get_or bs 2 0 ∷ (between 3 (3 + 2 * count_of bs) bs ++ (between (3 + 2 * count_of bs) (3 * count_of bs + 4) bs ++ drop (3 * count_of bs + 4) bs))
  parts_are =
      drop_more bs 0 0 (omega (arith, ok.size))
      ∙ ap (λ r. get_or bs 0 0 ∷ r) (drop_more bs 1 0 (omega (arith, ok.size))
      ∙ ap (λ r. get_or bs 1 0 ∷ r) (drop_more bs 2 0 (omega (arith, ok.size))
      ∙ ap (λ r. get_or bs 2 0 ∷ r) (drop_split bs 3 (3 + 2 * count_of bs) (omega arith)
      ∙ ap (λ r. between 3 (3 + 2 * count_of bs) bs ++ r) (drop_split bs (3 + 2 * count_of bs) (3 * count_of bs + 4) (omega arith)))))

  pub round : tag_bytes (tree_of bs) (label_of bs) ≡ bs
  unfolding tag_bytes
  round =
      let n = two_pair (get_or bs 0 0) (get_or bs 1 0) (small 0) (small 1) in
      let k = length-map-range_with_len (field_at bs) 0 (count_of bs) in
      (λ t. n t ++ (k t ∷ (ends_two t ++ (depths_are t ++ body_is t)))) ∙ sym parts_are
