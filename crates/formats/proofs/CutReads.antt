-- A cut tag reads as the first fields of the tag.
use Rattle.std.proofs.Common.{◌≡◌, ℕ, zero, suc, ◌+◌, ◌-◌, ◌*◌, ◌/◌, ◌%◌, ◌^◌, ◌<◌, ◌≤◌, false, eqb, List, [], map, length, get_or, take, drop, sym, refl, ap, ◌∙◌, ⊎_elim, arith, get_or-drop}
use Rattle.std.proofs.lemmas.Grind.{common_steps}
use Rattle.std.proofs.lemmas.Bool.Decides.{nat_tests}
use Rattle.std.specs.List.{range_with_len}
use Rattle.std.proofs.lemmas.Nat.{shr_split, shl-shr, shr-shr}
use Rattle.std.proofs.lemmas.List.FromFn.{fill_by_all, length-map-range_with_len, get_or-map-range_with_len, take-map-range_with_len}
use Rattle.std.proofs.lemmas.Bool.{cases_lt}
use Rattle.formats.specs.Label.{branch}
use Rattle.formats.specs.Models.{field_by, field_at, label_of}
use Rattle.formats.specs.Layout.{all_below, pair_at, tree_of, count_of, head_of, bits_of, end_at, begin_at, depth_at, least_at, end_step, depth_step, end_fine, depth_fine, spare_of, bit_at}
use Rattle.formats.proofs.Readable.{Readable}
use Rattle.formats.specs.Words.{word_at}
use Rattle.formats.proofs.Below.{all_at, all_from}
use Rattle.formats.proofs.Bits.{bit_same, length_bits, get_d_bits}
use Rattle.formats.proofs.Readable.{Readable}
use Rattle.formats.proofs.Spans.{span, upward}
use Rattle.formats.proofs.Cutting.{cut_bytes, cleared, Kept, kept}

-- cs reads as the first m fields of bs
pub record Shorter (bs cs : List ℕ) (m : ℕ) : Type 0 where
  pub readable : Readable cs
  pub number : tree_of cs ≡ tree_of bs
  pub label : label_of cs ≡ take m (label_of bs)

-- lists made by functions that agree below n
map_same : {X : Type 0} (f g : ℕ → X) (d : X) (n : ℕ) → ((i : ℕ) → i < n → f i ≡ g i) → map f (range_with_len 0 n) ≡ map g (range_with_len 0 n)
map_same f g d n h =
    fill_by_all g (map f (range_with_len 0 n)) n d (length-map-range_with_len f 0 n) (λ i l. get_or-map-range_with_len f 0 n i i d l (omega arith) ∙ h i l)

-- a cleared byte
cleared_is : (b n : ℕ) → cleared b n ≡ b / 2 ^ n * 2 ^ n
cleared_is b n = omega (arith, shr_split b n)

cleared_low : (b n : ℕ) → cleared b n % 2 ^ n ≡ 0
cleared_low b n = grind (arith, nat_tests, common_steps)

cleared_high : (b n d : ℕ) → cleared b n / 2 ^ (n + d) ≡ b / 2 ^ (n + d)
cleared_high b n d =
    ap (λ x. x / 2 ^ (n + d)) (cleared_is b n)
    ∙ sym (shr-shr (b / 2 ^ n * 2 ^ n) n d)
    ∙ ap (λ x. x / 2 ^ d) (shl-shr (b / 2 ^ n) n)
    ∙ shr-shr b n d

cleared_bit : (b n e : ℕ) → n ≤ e → cleared b n / 2 ^ e % 2 ≡ b / 2 ^ e % 2
cleared_bit b n e h =
    let q : n + (e - n) ≡ e = omega arith in
    ap (λ x. cleared b n / 2 ^ x % 2) (sym q) ∙ ap (λ x. x % 2) (cleared_high b n (e - n)) ∙ ap (λ x. b / 2 ^ x % 2) q

module _ (bs cs : List ℕ) (m : ℕ) (ok : Readable bs) (odd : m % 2 ≡ 1) (within : m ≤ count_of bs) (h : Kept bs cs (count_of bs) m (end_at bs (m - 1))) where
  pub same_tree : tree_of cs ≡ tree_of bs
  same_tree = λ t. h.front 0 (omega arith) t + 256 * h.front 1 (omega arith) t

  pub same_end : (i : ℕ) → i < m → end_at cs i ≡ end_at bs i
  same_end i l = λ t. h.ends (3 + 2 * i) (omega arith) (omega arith) t + 256 * h.ends (3 + 2 * i + 1) (omega arith) (omega arith) t

  same_begin : (i : ℕ) → i < m → begin_at cs i ≡ begin_at bs i
  same_begin zero l = refl
  same_begin (suc i) l = same_end i (omega arith)

  pub same_depth : (j : ℕ) → j < (m + 1) / 2 → depth_at cs j ≡ depth_at bs j
  same_depth j l =
      ap (λ k. pair_at cs (3 + 2 * k + 2 * j)) h.count
      ∙ (λ t. h.depths (3 + 2 * m + 2 * j) (3 + 2 * count_of bs + 2 * j) (omega arith) (omega arith) (omega arith) t + 256 * h.depths (3 + 2 * m + 2 * j + 1) (3 + 2 * count_of bs + 2 * j + 1) (omega arith) (omega arith) (omega arith) t)

  same_least : (j : ℕ) → j < (m + 1) / 2 → least_at cs j ≡ least_at bs j
  same_least zero l = refl
  same_least (suc j) l = ap (λ d. d + 1) (same_depth j (omega arith))

  same_bits : bits_of cs ≡ end_at bs (m - 1)
  same_bits = ap (λ k. end_at cs (k - 1)) h.count ∙ same_end (m - 1) (omega arith)

  pub cut_readable : Readable cs
  cut_readable = record {
    number = omega (arith, same_tree, ok.number);
    odd = omega (arith, h.count);
    few = omega (arith, h.count, ok.few);
    ends = ap (all_below (end_fine cs)) h.count ∙ all_from (end_fine cs) m (λ i l. (λ t. end_step (same_begin i l t) (same_end i l t)) ∙ all_at (end_fine bs) (count_of bs) i ok.ends (omega arith));
    depths = ap (λ k. all_below (depth_fine cs) ((k + 1) / 2)) h.count ∙ all_from (depth_fine cs) ((m + 1) / 2) (λ j l. (λ t. depth_step (same_least j l t) (same_depth j l t)) ∙ all_at (depth_fine bs) ((count_of bs + 1) / 2) j ok.depths (omega arith));
    size = h.size ∙ sym (λ t. 3 * h.count t + 4 + (same_bits t + 7) / 8);
    spare =
        (λ t. get_or cs (length cs - 1) 0 % 2 ^ spare_of (same_bits t))
        ∙ ap (λ b. b % 2 ^ spare_of (end_at bs (m - 1))) (h.last (length cs - 1) (3 * count_of bs + 4 + ((end_at bs (m - 1) + 7) / 8 - 1)) (omega (arith, h.size, (span bs ok (m - 1) (omega arith)).some)) (omega (arith, h.size, (span bs ok (m - 1) (omega arith)).some)))
        ∙ cleared_low (get_or bs (3 * count_of bs + 4 + ((end_at bs (m - 1) + 7) / 8 - 1)) 0) (spare_of (end_at bs (m - 1)));
  }

  -- the bits below the last end
  same_bit : (t : ℕ) → t < end_at bs (m - 1) → bit_at (drop (head_of cs) cs) t ≡ bit_at (drop (head_of bs) bs) t
  same_bit t l =
      ⊎_elim
      (λ inner.
      bit_same (drop (head_of cs) cs) (drop (head_of bs) bs) t t
      (get_or-drop (head_of cs) cs (t / 8) 0
      ∙ h.body (head_of cs + t / 8) (head_of bs + t / 8) (omega (arith, h.count)) (omega (arith, h.count)) (omega (arith, h.count))
      ∙ sym (get_or-drop (head_of bs) bs (t / 8) 0))
      refl)
      (λ edge.
      ap (λ b. eqb (b / 2 ^ (7 - t % 8) % 2) 1)
      (get_or-drop (head_of cs) cs (t / 8) 0
      ∙ h.last (head_of cs + t / 8) (head_of bs + t / 8) (omega (arith, h.count)) (omega (arith, h.count)))
      ∙ ap (λ b. eqb b 1) (cleared_bit (get_or bs (head_of bs + t / 8) 0) (spare_of (end_at bs (m - 1))) (7 - t % 8) (omega arith))
      ∙ ap (λ b. eqb (b / 2 ^ (7 - t % 8) % 2) 1) (sym (get_or-drop (head_of bs) bs (t / 8) 0)))
      (cases_lt (t / 8) ((end_at bs (m - 1) + 7) / 8 - 1))

  pub same_words : (i : ℕ) → i < m → word_at cs i ≡ word_at bs i
  same_words i l =
      let b = same_begin i l in
      let e = same_end i l in
      fill_by_all (λ t. bit_at (drop (head_of bs) bs) (begin_at bs i + t)) (word_at cs i) (end_at bs i - begin_at bs i) false
      (length_bits (drop (head_of cs) cs) (begin_at cs i) (end_at cs i - begin_at cs i) ∙ (λ t. e t - b t))
      (λ k g.
      get_d_bits (drop (head_of cs) cs) (begin_at cs i) (end_at cs i - begin_at cs i) k (omega (arith, b, e))
      ∙ ap (λ n. bit_at (drop (head_of cs) cs) (n + k)) b
      ∙ same_bit (begin_at bs i + k) (omega (arith, upward bs ok (m - 1) i (omega arith) (omega arith))))

  same_fields : (i : ℕ) → i < m → field_at cs i ≡ field_at bs i
  same_fields i l = let w = same_words i l in let d = same_depth (i / 2) (omega arith) in λ t. field_by i (w t) (d t)

  cut_label : label_of cs ≡ take m (label_of bs)
  cut_label =
      ap (λ n. map (field_at cs) (range_with_len 0 n)) h.count
      ∙ map_same (field_at cs) (field_at bs) (branch []) m same_fields
      ∙ sym (take-map-range_with_len (field_at bs) 0 (count_of bs) m within)

  pub shorter : Shorter bs cs m
  shorter = record {
    readable = cut_readable;
    number = same_tree;
    label = cut_label;
  }

pub cut_shorter : (bs : List ℕ) (m : ℕ) → Readable bs → m % 2 ≡ 1 → m ≤ count_of bs → Shorter bs (cut_bytes bs m) m
cut_shorter bs m ok odd within =
    let s = span bs ok (m - 1) (omega arith) in
    shorter bs (cut_bytes bs m) m ok odd within (kept bs (count_of bs) m (end_at bs (m - 1)) within (omega (arith, s.some)) (omega (arith, s.inside, ok.size)))
