-- What each part of a tag is, by the rows.
use Rattle.std.proofs.Common.{◌≡◌, ℕ, zero, suc, ◌+◌, ◌*◌, ◌/◌, ◌<◌, ◌≤◌, Bool, true, List, [], ◌∷◌, ◌++◌, length, sym, refl, ap, ◌∙◌, subst, ⊎_elim, append_assoc, append-nil, add-zero, arith, length-append}
use Rattle.std.specs.List.{flat_map}
use Rattle.std.proofs.lemmas.List.FromFn.{length-map-range_with_len}
use Rattle.std.proofs.lemmas.Bool.{cases_eq}
use Rattle.trees.specs.Above.{depth_of}
use Rattle.codes.specs.declared.word.Word.{Word}
use Rattle.codes.specs.Words.{bits}
use Rattle.codes.specs.Coding.{Lawful}
use Rattle.formats.specs.Limits.{most_tag_bytes}
use Rattle.formats.specs.Label.{Field, path, branch, Label, word_in, words_in, depths_in, body_in}
use Rattle.formats.specs.Words.{byte_at, pack}
use Rattle.formats.specs.Models.{two, ends_from, tag_bytes}
use Rattle.formats.proofs.Written.{length_two}
use Rattle.labels.specs.Sizes.{is_light}
use Rattle.labels.specs.Paths.{top}
use Rattle.labels.specs.Labels.{path_word, branch_word}
use Rattle.labels.proofs.Short.{word_bits}
use Rattle.rows.specs.Chains.{at, Held}
use Rattle.rows.specs.Rows.{parents_in, Rooted, row_label}
use Rattle.rows.proofs.Labelled.{body_append, top_low, light_top, label_root, label_more, few_fields, few_bits}
use Rattle.writing.specs.Bits.{unpacked}
use Rattle.writing.specs.Writes.{Wrote}
use Rattle.writing.specs.Tags.{ends_at, row_tag, last_field, Straight, Turned}
use Rattle.writing.proofs.Puts.{then, wrote_nil}

-- ---- lists

pub joined_append : (f : ℕ → List ℕ) (xs ys : List ℕ) → flat_map f (xs ++ ys) ≡ flat_map f xs ++ flat_map f ys
joined_append f [] ys = refl
joined_append f (x ∷ xs) ys = ap (λ (r : List ℕ). f x ++ r) (joined_append f xs ys) ∙ sym (append_assoc (f x) (flat_map f xs) (flat_map f ys))

ends_long : (s : ℕ) (l : Label) → length (ends_from s (words_in l)) ≡ length l
ends_long s [] = refl
ends_long s (x ∷ l) = ap suc (ends_long (s + length (word_in x)) l)

pub length_ends : (l : Label) → length (ends_at l) ≡ length l
length_ends l = ends_long 0 l

ends_append : (s : ℕ) (l m : Label) → ends_from s (words_in (l ++ m)) ≡ ends_from s (words_in l) ++ ends_from (s + length (body_in l)) (words_in m)
ends_append s [] m = ap (λ (k : ℕ). ends_from k (words_in m)) (sym (add-zero s))
ends_append s (x ∷ l) m =
    let a = length-append (word_in x) (body_in l) in
    let e : s + length (word_in x) + length (body_in l) ≡ s + length (word_in x ++ body_in l) = omega arith in
    ap (λ (r : List ℕ). (s + length (word_in x)) ∷ r) (ends_append (s + length (word_in x)) l m ∙ ap (λ (k : ℕ). ends_from (s + length (word_in x)) (words_in l) ++ ends_from k (words_in m)) e)

depths_append : (l m : Label) → depths_in (l ++ m) ≡ depths_in l ++ depths_in m
depths_append [] m = refl
depths_append (path w d ∷ l) m = ap (λ (r : List ℕ). d ∷ r) (depths_append l m)
depths_append (branch w ∷ l) m = depths_append l m

-- the parts of a tag, one after the other
pub tag_parts : (number : ℕ) (l : Label) → tag_bytes number l ≡ (two number ++ (length l ∷ [])) ++ (flat_map two (ends_at l) ++ (flat_map two (depths_in l) ++ pack (body_in l)))
unfolding tag_bytes
tag_parts number l = refl

tag_bytes_length : (number : ℕ) (l : Label) → length (tag_bytes number l) ≡ 3 + 2 * length l + 2 * length (depths_in l) + (length (body_in l) + 7) / 8
tag_bytes_length number l =
    let a = ap (λ (bs : List ℕ). length bs) (tag_parts number l) in
    let b = length-append (flat_map two (ends_at l)) (flat_map two (depths_in l) ++ pack (body_in l)) in
    let d = length-append (flat_map two (depths_in l)) (pack (body_in l)) in
    let c1 = length_two (ends_at l) in
    let c2 = length_ends l in
    let c3 = length_two (depths_in l) in
    let c5 = length-map-range_with_len (byte_at (body_in l)) 0 ((length (body_in l) + 7) / 8) in
    omega arith

-- ---- a label and its last field

pub body_last : (l : Label) (x : Field) → body_in (l ++ x ∷ []) ≡ body_in l ++ word_in x
body_last l x = body_append l (x ∷ []) ∙ ap (λ (ws : List Bool). body_in l ++ ws) (append-nil (word_in x))

pub ends_last : (l : Label) (x : Field) → flat_map two (ends_at (l ++ x ∷ [])) ≡ flat_map two (ends_at l) ++ two (length (body_in (l ++ x ∷ [])))
ends_last l x =
    let a = length-append (body_in l) (word_in x) in
    let b = ap length (body_last l x) in
    let e : 0 + length (body_in l) + length (word_in x) ≡ length (body_in (l ++ x ∷ [])) = omega arith in
    ap (flat_map two) (ends_append 0 l (x ∷ [])) ∙ joined_append two (ends_at l) ((0 + length (body_in l) + length (word_in x)) ∷ []) ∙ ap (λ (y : ℕ). flat_map two (ends_at l) ++ two y) e

pub depths_path : (l : Label) (w : List Bool) (d : ℕ) → flat_map two (depths_in (l ++ path w d ∷ [])) ≡ flat_map two (depths_in l) ++ two d
depths_path l w d = ap (flat_map two) (depths_append l (path w d ∷ [])) ∙ joined_append two (depths_in l) (d ∷ [])

pub depths_branch : (l : Label) (w : List Bool) → depths_in (l ++ branch w ∷ []) ≡ depths_in l
depths_branch l w = depths_append l (branch w ∷ []) ∙ append-nil (depths_in l)

-- ---- by the rows

-- rows hold one word at a place
pub held_same : (w x : Word) (a b c : List ℕ) (u : ℕ) → Held w a b c u → Held x a b c u → w ≡ x
held_same w x a b c u h k = let v : w.value ≡ x.value = sym h.0 ∙ k.0 in let n : w.len ≡ x.len = sym h.1 ∙ k.1 in λ i. record { value = v i; len = n i }

module _ (f : List ℕ → ℕ → Word) (up : List ℕ) (R : Rooted up) (v : ℕ) (l : v < length up) where
  pub straight : top (parents_in up) (length up) v ≡ 0 → Straight f up v
  straight z = record { label = label_root up R f v l z }

  -- t is the top of the path of v
  module _ (t : ℕ) (same : t ≡ top (parents_in up) (length up) v) (ne : t ≡ 0 → ⊥) where
    pub t_in : (1 ≤ t) × (t < length up)
    t_in = let a = top_low up R v in (omega arith, omega arith)

    pub light : is_light (parents_in up) (length up) (at up t) t ≡ true
    light = subst (λ (x : ℕ). is_light (parents_in up) (length up) (at up x) x ≡ true) (sym same) (light_top up R v l (λ z. ne (same ∙ z)))

    pub p_in : at up t < v
    p_in = let b = R.below t t_in.0 t_in.1 in let a = top_low up R v in omega arith

    pub label_is : row_label f up v ≡ row_label f up (at up t) ++ (branch (bits (branch_word (parents_in up) (length up) f (at up t) t)) ∷ last_field f up v ∷ [])
    label_is = subst (λ (x : ℕ). row_label f up v ≡ row_label f up (at up x) ++ (branch (bits (branch_word (parents_in up) (length up) f (at up x) x)) ∷ last_field f up v ∷ [])) (sym same) (label_more up R f v l (λ z. ne (same ∙ z)))

    pub turned : (w : Word) → w.len ≤ 32 → w ≡ branch_word (parents_in up) (length up) f (at up t) t → Turned f up v (at up t) w
    turned w short e = record {
      below = p_in;
      short = short;
      label = subst (λ (x : Word). row_label f up v ≡ row_label f up (at up t) ++ (branch (bits x) ∷ last_field f up v ∷ [])) (sym e) label_is;
    }

-- a label has one more depth than branches
module _ (f : List ℕ → ℕ → Word) (up : List ℕ) (R : Rooted up) where
  at_root : (v : ℕ) → Straight f up v → 2 * length (depths_in (row_label f up v)) ≡ length (row_label f up v) + 1
  at_root v s = rw s.label refl

  below_root : (v u : ℕ) (w : List Bool) → row_label f up v ≡ row_label f up u ++ (branch w ∷ last_field f up v ∷ []) → 2 * length (depths_in (row_label f up u)) ≡ length (row_label f up u) + 1 → 2 * length (depths_in (row_label f up v)) ≡ length (row_label f up v) + 1
  below_root v u w t ih =
      let a = ap (λ (x : Label). length (depths_in x)) t in
      let b = ap (λ (x : List ℕ). length x) (depths_append (row_label f up u) (branch w ∷ last_field f up v ∷ [])) in
      let c = length-append (depths_in (row_label f up u)) (depth_of (parents_in up) v ∷ []) in
      let d = ap (λ (x : Label). length x) t in
      let e = length-append (row_label f up u) (branch w ∷ last_field f up v ∷ []) in
      omega arith

  twice_in : (k v : ℕ) → v < k → v < length up → 2 * length (depths_in (row_label f up v)) ≡ length (row_label f up v) + 1
  twice_in zero v h l = absurd (omega arith)
  twice_in (suc k) v h l =
      let t = top (parents_in up) (length up) v in
      let ih = twice_in k (at up t) in
      ⊎_elim
      (λ (z : t ≡ 0). at_root v (straight f up R v l z))
      (λ (ne : t ≡ 0 → ⊥).
      let q = p_in f up R v l t refl ne in
      below_root v (at up t) (bits (branch_word (parents_in up) (length up) f (at up t) t)) (label_is f up R v l t refl ne) (ih (omega arith) (omega arith)))
      (cases_eq t 0)

  pub twice_depths : (v : ℕ) → v < length up → 2 * length (depths_in (row_label f up v)) ≡ length (row_label f up v) + 1
  twice_depths v l = twice_in (suc v) v (omega arith) l

-- ---- the length of a tag

module _ (f : List ℕ → ℕ → Word) (up : List ℕ) (R : Rooted up) (v : ℕ) (l : v < length up) where
  pub tag_long : (number : ℕ) → length (row_tag f up number v) ≡ 4 + 3 * length (row_label f up v) + (length (body_in (row_label f up v)) + 7) / 8
  unfolding row_tag
  tag_long number = omega (arith, tag_bytes_length number (row_label f up v), twice_depths f up R v l)

  pub tag_small : Lawful f → 4 + 3 * length (row_label f up v) + (length (body_in (row_label f up v)) + 7) / 8 ≤ most_tag_bytes
  tag_small L = omega (arith, few_fields up R f v l, few_bits up R f L v l)

-- ---- a label that is written but for its path field

module _ (f : List ℕ → ℕ → Word) (up : List ℕ) (R : Rooted up) (v : ℕ) (l : v < length up) (front : Label) (e : row_label f up v ≡ front ++ last_field f up v ∷ []) where
  pub front_fields : length front + 1 ≡ length (row_label f up v)
  front_fields = let a = ap (λ (x : Label). length x) e in let b = length-append front (last_field f up v ∷ []) in omega arith

  pub body_is : body_in (row_label f up v) ≡ body_in front ++ bits (path_word (parents_in up) (length up) f v)
  body_is = ap (λ (x : Label). body_in x) e ∙ body_last front (last_field f up v)

  pub front_bits : length (body_in front) + (path_word (parents_in up) (length up) f v).len ≡ length (body_in (row_label f up v))
  front_bits =
      let a = ap (λ (x : List Bool). length x) body_is in
      let b = length-append (body_in front) (bits (path_word (parents_in up) (length up) f v)) in
      let c = word_bits (path_word (parents_in up) (length up) f v) in
      omega arith

  pub ends_are : flat_map two (ends_at (row_label f up v)) ≡ flat_map two (ends_at front) ++ two (length (body_in (row_label f up v)))
  ends_are =
      ap (λ (x : Label). flat_map two (ends_at x)) e ∙ ends_last front (last_field f up v)
      ∙ ap (λ (x : Label). flat_map two (ends_at front) ++ two (length (body_in x))) (sym e)

  pub depths_are : flat_map two (depths_in (row_label f up v)) ≡ flat_map two (depths_in front) ++ two (depth_of (parents_in up) v)
  depths_are = ap (λ (x : Label). flat_map two (depths_in x)) e ∙ depths_path front (bits (path_word (parents_in up) (length up) f v)) (depth_of (parents_in up) v)

  pub front_depths : 2 * length (depths_in front) ≡ length front
  front_depths =
      let a = twice_depths f up R v l in
      let b = ap (λ (x : List ℕ). length x) depths_are in
      let c = length-append (flat_map two (depths_in front)) (two (depth_of (parents_in up) v)) in
      let d = length_two (depths_in (row_label f up v)) in
      let g = length_two (depths_in front) in
      let h = front_fields in
      omega arith

-- what stands before the last field
pub record Fronted (f : List ℕ → ℕ → Word) (up : List ℕ) (v : ℕ) : Type 0 where
  pub front : Label
  pub label : row_label f up v ≡ front ++ last_field f up v ∷ []

module _ (f : List ℕ → ℕ → Word) (up : List ℕ) (R : Rooted up) (v : ℕ) (l : v < length up) where
  fronted : Fronted f up v
  fronted =
      let t = top (parents_in up) (length up) v in
      ⊎_elim
      (λ (z : t ≡ 0). record { front = []; label = (straight f up R v l z).label })
      (λ (ne : t ≡ 0 → ⊥).
      let b = branch (bits (branch_word (parents_in up) (length up) f (at up t) t)) in
      record { front = row_label f up (at up t) ++ b ∷ []; label = label_is f up R v l t refl ne ∙ sym (append_assoc (row_label f up (at up t)) (b ∷ []) (last_field f up v ∷ [])) })
      (cases_eq t 0)

  pub some_field : 1 ≤ length (row_label f up v)
  some_field = let a = fronted in let b = front_fields f up R v l a.front a.label in omega arith

  pub last_inside : (path_word (parents_in up) (length up) f v).len ≤ length (body_in (row_label f up v))
  last_inside = let a = fronted in let b = front_bits f up R v l a.front a.label in omega arith

  pub turned_fields : (u : ℕ) (w : Word) → Turned f up v u w → length (row_label f up u) + 2 ≡ length (row_label f up v)
  turned_fields u w t =
      let a = ap (λ (x : Label). length x) t.label in
      let b = length-append (row_label f up u) (branch (bits w) ∷ last_field f up v ∷ []) in
      omega arith

  pub turned_bits : (u : ℕ) (w : Word) → Turned f up v u w → length (body_in (row_label f up u)) + w.len + (path_word (parents_in up) (length up) f v).len ≡ length (body_in (row_label f up v))
  turned_bits u w t =
      let b = branch (bits w) in
      let a = front_bits f up R v l (row_label f up u ++ b ∷ []) (t.label ∙ sym (append_assoc (row_label f up u) (b ∷ []) (last_field f up v ∷ []))) in
      let c = ap (λ (ws : List Bool). length ws) (body_last (row_label f up u) b) in
      let d = length-append (body_in (row_label f up u)) (bits w) in
      let n = word_bits w in
      omega arith

-- e, d and b became e', d' and b', the bits of b in its bytes, by all of v's label but for its path field
pub record Begun (f : List ℕ → ℕ → Word) (up : List ℕ) (v : ℕ) (e d b e' d' b' : List ℕ) : Type 0 where
  pub front : Label
  pub label : row_label f up v ≡ front ++ last_field f up v ∷ []
  pub ends : Wrote 0 (flat_map two (ends_at front)) e e'
  pub depths : Wrote 0 (flat_map two (depths_in front)) d d'
  pub body : Wrote 0 (body_in front) (unpacked b) (unpacked b')

pub begun_none : (f : List ℕ → ℕ → Word) (up : List ℕ) (v : ℕ) (e d b : List ℕ) → Straight f up v → Begun f up v e d b e d b
begun_none f up v e d b s = record {
  front = [];
  label = s.label;
  ends = wrote_nil 0 e (omega arith);
  depths = wrote_nil 0 d (omega arith);
  body = wrote_nil 0 (unpacked b) (omega arith);
}

-- after the label of u, the branch field
pub begun_turned :
    (f : List ℕ → ℕ → Word) (up : List ℕ) (v u : ℕ) (w : Word) (at_end at_bit end : ℕ) {e d b e1 d1 e2 b2 : List ℕ} (b1 : List ℕ)
    → Turned f up v u w
    → Wrote 0 (flat_map two (ends_at (row_label f up u))) e e1 → Wrote 0 (flat_map two (depths_in (row_label f up u))) d d1 → Wrote 0 (body_in (row_label f up u)) (unpacked b) (unpacked b1)
    → at_end ≡ 2 * length (row_label f up u) → end ≡ length (body_in (row_label f up u)) + w.len → at_bit ≡ length (body_in (row_label f up u))
    → Wrote at_end (two end) e1 e2 → Wrote at_bit (bits w) (unpacked b1) (unpacked b2)
    → Begun f up v e d b e2 d1 b2
begun_turned f up v u w at_end at_bit end {e} {d} {b} {e1} {d1} {e2} {b2} b1 t we wd wb pe pn pb we2 wb2 =
    let x = branch (bits w) in
    let n = word_bits w in
    let m = length_two (ends_at (row_label f up u)) in
    let k = length_ends (row_label f up u) in
    let long = ap (λ (ws : List Bool). length ws) (body_last (row_label f up u) x) in
    let sum = length-append (body_in (row_label f up u)) (bits w) in
    let same : end ≡ length (body_in (row_label f up u ++ x ∷ [])) = omega arith in
    record {
      front = row_label f up u ++ x ∷ [];
      label = t.label ∙ sym (append_assoc (row_label f up u) (x ∷ []) (last_field f up v ∷ []));
      ends = subst (λ (ws : List ℕ). Wrote 0 ws e e2) (ap (λ (y : ℕ). flat_map two (ends_at (row_label f up u)) ++ two y) same ∙ sym (ends_last (row_label f up u) x)) (then we we2 (omega arith));
      depths = subst (λ (ds : List ℕ). Wrote 0 (flat_map two ds) d d1) (sym (depths_branch (row_label f up u) (bits w))) wd;
      body = subst (λ (ws : List Bool). Wrote 0 ws (unpacked b) (unpacked b2)) (sym (body_last (row_label f up u) x)) (then wb wb2 (omega arith));
    }
