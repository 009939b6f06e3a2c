-- What is written reads as what it was.
use Rattle.std.proofs.Common.{◌≡◌, ℕ, zero, suc, ◌+◌, ◌-◌, ◌*◌, ◌/◌, ◌%◌, ◌^◌, ◌<◌, ◌≤◌, true, false, List, [], ◌∷◌, ◌++◌, length, get_or, take, drop, Ok, sym, refl, ap, ◌∙◌, append_assoc, arith, get_or-drop, drop_at}
use Rattle.std.proofs.lemmas.Grind.{common_steps}
use Rattle.std.proofs.lemmas.Bool.Decides.{nat_tests}
use Rattle.std.specs.List.{flat_map}
use Rattle.std.proofs.lemmas.List.FromFn.{fill_by_all, length-map-range_with_len, get_or-map-range_with_len}
use Rattle.std.proofs.lemmas.List.{length-append, get_or_past}
use Rattle.std.proofs.lemmas.Bool.{and_from, le-leb}
use Rattle.formats.specs.Label.{Word, branch, Label, words_in, depths_in, body_in, Fine}
use Rattle.formats.specs.Layout.{pair_at, tree_of, head_of, bits_of, begin_at, end_at, depth_at, least_at, end_step, depth_step, end_fine, depth_fine, spare_of, spare_at, bit_at}
use Rattle.formats.proofs.Readable.{Readable}
use Rattle.formats.specs.Words.{word_at, bits_at, byte_at, pack, digit, digit_at}
use Rattle.formats.specs.Models.{two, ends_from, tag_bytes, field_by, field_at, label_of, outcome, read_tag}
use Rattle.formats.proofs.Readable.{no_fault}
use Rattle.formats.proofs.Bits.{bit_pack}
use Rattle.formats.proofs.Below.{all_from}
use Rattle.formats.proofs.Chains.{flat, flat_more, flat_all, flat_at, length_ends, ends_at, length_words, chain_fit, chain_depths, chain_rises, chain_shallow, chain_field}

-- the bytes of a number and a label, which tag_bytes opens to
abbrev pub tag_parts : ℕ → Label → List ℕ
tag_parts number l =
    two number ++ (length l ∷ flat_map two (ends_from 0 (words_in l)) ++ (flat_map two (depths_in l) ++ pack (body_in l)))

end_step_ok : (b e : ℕ) → b < e → e ≤ b + 32 → e ≤ 1024 → end_step b e ≡ true
end_step_ok b e p q r = grind (arith, nat_tests, common_steps)

-- pairs of bytes
pub length_two : (xs : List ℕ) → length (flat_map two xs) ≡ 2 * length xs
length_two [] = refl
length_two (x ∷ xs) = omega (arith, length_two xs)

pair_joined : (xs ys : List ℕ) (i : ℕ) → i < length xs → pair_at (flat_map two xs ++ ys) (2 * i) ≡ get_or xs i 0
pair_joined [] ys i h = absurd (omega arith)
pair_joined (x ∷ xs) ys zero h = omega arith
pair_joined (x ∷ xs) ys (suc i) h =
    let z : 2 * suc i ≡ suc (suc (2 * i)) = omega arith in
    let y : suc (suc (2 * i)) + 1 ≡ suc (suc (2 * i + 1)) = omega arith in
    ap (pair_at (flat_map two (x ∷ xs) ++ ys)) z
    ∙ ap (λ n. get_or (flat_map two xs ++ ys) (2 * i) 0 + 256 * get_or (flat_map two (x ∷ xs) ++ ys) n 0) y
    ∙ pair_joined xs ys i (omega arith)

pair_skip : (xs ys : List ℕ) (n o : ℕ) → length xs ≡ n → pair_at (xs ++ ys) (n + o) ≡ pair_at ys o
pair_skip xs ys n o e = grind (arith, nat_tests, common_steps)

-- the low s bits of a byte are 0 where its last s bits are
spare_byte : (w : Word) (q s : ℕ) → s < 8 → ((r : ℕ) → 8 ≤ r + s → digit_at w (8 * q + r) ≡ 0) → byte_at w q % 2 ^ s ≡ 0
spare_byte w q zero l h = omega arith
spare_byte w q (suc zero) l h = let a = h 7 (omega arith) in omega arith
spare_byte w q (suc (suc zero)) l h = let a = h 7 (omega arith) in let b = h 6 (omega arith) in omega arith
spare_byte w q (suc (suc (suc zero))) l h = let a = h 7 (omega arith) in let b = h 6 (omega arith) in let c = h 5 (omega arith) in omega arith
spare_byte w q (suc (suc (suc (suc zero)))) l h =
    let a = h 7 (omega arith) in let b = h 6 (omega arith) in let c = h 5 (omega arith) in let d = h 4 (omega arith) in omega arith
spare_byte w q (suc (suc (suc (suc (suc zero))))) l h =
    let a = h 7 (omega arith) in let b = h 6 (omega arith) in let c = h 5 (omega arith) in let d = h 4 (omega arith) in let e = h 3 (omega arith) in omega arith
spare_byte w q (suc (suc (suc (suc (suc (suc zero)))))) l h =
    let a = h 7 (omega arith) in let b = h 6 (omega arith) in let c = h 5 (omega arith) in let d = h 4 (omega arith) in let e = h 3 (omega arith) in let f = h 2 (omega arith) in omega arith
spare_byte w q (suc (suc (suc (suc (suc (suc (suc zero))))))) l h =
    let a = h 7 (omega arith) in let b = h 6 (omega arith) in let c = h 5 (omega arith) in let d = h 4 (omega arith) in let e = h 3 (omega arith) in let f = h 2 (omega arith) in let g = h 1 (omega arith) in omega arith
spare_byte w q (suc (suc (suc (suc (suc (suc (suc (suc s)))))))) l h = absurd (omega arith)

module _ (number : ℕ) (l : Label) (fine : Fine l) where
  abbrev bs : List ℕ
  bs = tag_parts number l

  abbrev ws : List Word
  ws = words_in l

  abbrev E : List ℕ
  E = ends_from 0 (words_in l)

  abbrev D : List ℕ
  D = depths_in l

  abbrev B : List ℕ
  B = pack (body_in l)

  abbrev front : List ℕ
  front = number % 256 ∷ number / 256 ∷ length l ∷ []

  abbrev head : List ℕ
  head = number % 256 ∷ number / 256 ∷ length l ∷ flat_map two E

  n_ws : length ws ≡ length l
  n_ws = length_words l

  n_e : length E ≡ length l
  n_e = length_ends 0 ws ∙ n_ws

  n_d : 2 * length D ≡ length l + 1
  n_d = chain_depths 0 l fine.chain

  n_b : length B ≡ (length (body_in l) + 7) / 8
  n_b = length-map-range_with_len (byte_at (body_in l)) 0 ((length (body_in l) + 7) / 8)

  n_head : length head ≡ 3 + 2 * length l
  n_head = omega (arith, length_two E, n_e)

  n_full : length (head ++ flat_map two D) ≡ 3 * length l + 4
  n_full = length-append head (flat_map two D) ∙ omega (arith, n_head, length_two D, n_d)

  whole : bs ≡ (head ++ flat_map two D) ++ B
  whole = sym (append_assoc head (flat_map two D) B)

  is_number : tree_of bs ≡ number
  is_number = omega arith

  is_end : (i : ℕ) → i < length l → end_at bs i ≡ length (flat (take (suc i) ws))
  is_end i h =
      pair_skip front (flat_map two E ++ (flat_map two D ++ B)) 3 (2 * i) refl
      ∙ pair_joined E (flat_map two D ++ B) i (omega (arith, n_e))
      ∙ ends_at 0 ws i (omega (arith, n_ws))
      ∙ omega arith

  is_begin : (i : ℕ) → i ≤ length l → begin_at bs i ≡ length (flat (take i ws))
  is_begin zero h = refl
  is_begin (suc i) h = is_end i (omega arith)

  is_depth : (j : ℕ) → j < length D → depth_at bs j ≡ get_or D j 0
  is_depth j h = pair_skip head (flat_map two D ++ B) (3 + 2 * length l) (2 * j) n_head ∙ pair_joined D B j h

  is_body : drop (head_of bs) bs ≡ B
  is_body = ap (drop (3 * length l + 4)) whole ∙ drop_at (head ++ flat_map two D) B (3 * length l + 4) n_full

  long : (i : ℕ) → i < length l → length (flat (take (suc i) ws)) ≡ length (flat (take i ws)) + length (get_or ws i [])
  long i h = flat_more ws i (omega (arith, n_ws))

  is_word : (i : ℕ) → i < length l → word_at bs i ≡ get_or ws i []
  is_word i h =
      let b = is_begin i (omega arith) in
      let e = is_end i h in
      let n = long i h in
      let m = flat_all ws (suc i) in
      (λ t. bits_at (is_body t) (b t) (e t - b t))
      ∙ sym (fill_by_all (λ k. bit_at B (length (flat (take i ws)) + k)) (get_or ws i []) (length (flat (take (suc i) ws)) - length (flat (take i ws))) false (omega arith)
      (λ k g. sym (bit_pack (body_in l) (length (flat (take i ws)) + k) (omega arith) ∙ flat_at ws i k (omega (arith, n_ws)) (omega arith))))

  some : 0 < length l
  some = omega (arith, n_d)

  last_end : bits_of bs ≡ length (body_in l)
  last_end =
      let z : suc (length l - 1) ≡ length ws = omega (arith, some, n_ws) in
      is_end (length l - 1) (omega (arith, some)) ∙ ap (λ n. length (flat (take n ws))) z ∙ ap (λ v. length (flat v)) (lib_take ws)
    where
      lib_take : (v : List Word) → take (length v) v ≡ v
      lib_take [] = refl
      lib_take (x ∷ v) = ap (λ r. x ∷ r) (lib_take v)

  end_ok : (i : ℕ) → i < length l → end_fine bs i ≡ true
  end_ok i h =
      let b = is_begin i (omega arith) in
      let e = is_end i h in
      let n = long i h in
      let m = flat_all ws (suc i) in
      let f = chain_fit 0 l fine.chain i h in
      (λ t. end_step (b t) (e t))
      ∙ end_step_ok (length (flat (take i ws))) (length (flat (take (suc i) ws))) (omega arith) (omega arith) (omega (arith, fine.short))

  least_is : (j : ℕ) → j < length D → least_at bs j ≤ get_or D j 0
  least_is zero h = omega arith
  least_is (suc j) h = omega (arith, is_depth j (omega arith), chain_rises 0 l fine.chain j h)

  depth_ok : (j : ℕ) → j < length D → depth_fine bs j ≡ true
  depth_ok j h =
      ap (depth_step (least_at bs j)) (is_depth j h)
      ∙ and_from _ _ (le-leb _ _ (least_is j h)) (le-leb _ _ (chain_shallow 0 l fine.chain j h))

  n_bs : length bs ≡ 3 * length l + 4 + (length (body_in l) + 7) / 8
  n_bs = ap length whole ∙ length-append (head ++ flat_map two D) B ∙ omega (arith, n_full, n_b)

  first_fit : 1 ≤ length (body_in l)
  first_fit = omega (arith, long 0 some, flat_all ws 1, chain_fit 0 l fine.chain 0 some)

  is_spare : spare_at bs ≡ 0
  is_spare =
      let L = length (body_in l) in
      let q = (length (body_in l) + 7) / 8 - 1 in
      let p : length bs - 1 ≡ 3 * length l + 4 + ((length (body_in l) + 7) / 8 - 1) = omega (arith, n_bs, first_fit) in
      let last : get_or bs (length bs - 1) 0 ≡ byte_at (body_in l) ((length (body_in l) + 7) / 8 - 1) =
      ap (λ n. get_or bs n 0) p
      ∙ sym (get_or-drop (3 * length l + 4) bs ((length (body_in l) + 7) / 8 - 1) 0)
      ∙ ap (λ xs. get_or xs ((length (body_in l) + 7) / 8 - 1) 0) is_body
      ∙ get_or-map-range_with_len (byte_at (body_in l)) 0 ((length (body_in l) + 7) / 8) ((length (body_in l) + 7) / 8 - 1) ((length (body_in l) + 7) / 8 - 1) 0 (omega (arith, first_fit)) (omega arith) in
      (λ t. last t % 2 ^ spare_of (last_end t))
      ∙ spare_byte (body_in l) ((length (body_in l) + 7) / 8 - 1) (spare_of (length (body_in l))) (omega arith)
      (λ r g. ap digit (get_or_past (body_in l) (8 * ((length (body_in l) + 7) / 8 - 1) + r) false (omega (arith, first_fit))))

  pub length_tag : length (tag_bytes number l) ≡ 3 * length l + 4 + (length (body_in l) + 7) / 8
  unfolding tag_bytes
  length_tag = n_bs

  pub written : 1 ≤ number → Readable (tag_bytes number l)
  unfolding tag_bytes
  written h = record {
    number = omega (arith, is_number);
    odd = omega (arith, n_d);
    few = fine.few;
    ends = all_from (end_fine bs) (length l) end_ok;
    depths = all_from (depth_fine bs) ((length l + 1) / 2) (λ j g. depth_ok j (omega (arith, n_d)));
    size = n_bs ∙ sym (ap (λ n. 3 * length l + 4 + (n + 7) / 8) last_end);
    spare = is_spare;
  }

  pub label_back : label_of (tag_bytes number l) ≡ l
  unfolding tag_bytes
  label_back =
      sym (fill_by_all (field_at bs) l (length l) (branch []) refl
      (λ i h.
      let w = is_word i h in
      let d = is_depth (i / 2) (omega (arith, n_d)) in
      chain_field 0 l fine.chain i h ∙ sym (λ t. field_by i (w t) (d t))))

  pub reads_back : 1 ≤ number → read_tag (tag_bytes number l) ≡ Ok (number, l)
  unfolding tag_bytes
  reads_back h = let f = no_fault bs (written h) in let n = is_number in let v = label_back in λ t. outcome (f t) (n t, v t)
