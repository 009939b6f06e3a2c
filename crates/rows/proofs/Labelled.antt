-- Labels by their rows: a node whose path begins at the root, and the step up from any other.
use Rattle.std.proofs.Common.{◌≡◌, ℕ, ◌+◌, ◌<◌, ◌≤◌, Bool, true, ◌≢◌, List, [], ◌∷◌, ◌++◌, length, set, Some, Option, sym, refl, ap, ◌∙◌, ⊎_elim, append_assoc, arith, length-append, get_or-set_other, get_or-set_same, below_more}
use Rattle.std.proofs.lemmas.Bool.{cases_Bool}
use Rattle.trees.specs.Above.{depth_of}
use Rattle.trees.proofs.Upward.{depth_none, depth_some, depth_small}
use Rattle.codes.specs.declared.word.Word.{Word}
use Rattle.codes.specs.Words.{bits, Fit}
use Rattle.codes.specs.Coding.{Lawful}
use Rattle.formats.specs.Label.{path, branch, Label, word_in, body_in}
use Rattle.labels.specs.Sizes.{heavy, is_heavy, is_light}
use Rattle.labels.specs.Paths.{top}
use Rattle.labels.specs.Labels.{path_word, branch_word, path_field, branch_field}
use Rattle.labels.specs.Bounds.{most_label_fields, most_label_bits}
use Rattle.labels.proofs.Sizes.{heavy_test, light_test}
use Rattle.labels.proofs.Paths.{top_heavy, top_le}
use Rattle.labels.proofs.Weighing.{path_fit, branch_fit}
use Rattle.labels.proofs.Labels.{definitions_mean}
use Rattle.labels.proofs.Short as short
use Rattle.labels.proofs.Shape as shape
use Rattle.rows.specs.Chains.{at}
use Rattle.rows.specs.Rows.{parents_in, Rooted, HeavyRow, PathRows, BranchRows, TopRow, row_label}
use Rattle.rows.proofs.Trees.{tree, parent_is, top_top, heavy_some_at}

-- one more number of a row
pub stored_more : (F : ℕ → ℕ) (xs : List ℕ) (v x : ℕ) → x ≡ F v → v < length xs → ((k : ℕ) → k < v → at xs k ≡ F k) → (k : ℕ) → k < v + 1 → at (set xs v x) k ≡ F k
stored_more F xs v x e l old =
    below_more (λ (k : ℕ). at (set xs v x) k ≡ F k) v
    (λ k h. let ne : k ≢ v = λ d. omega arith in get_or-set_other xs v k x 0 ne ∙ old k h)
    (get_or-set_same xs v x 0 l ∙ e)

pub body_append : (l m : Label) → body_in (l ++ m) ≡ body_in l ++ body_in m
body_append [] m = refl
body_append (x ∷ l) m = ap (λ (r : List Bool). word_in x ++ r) (body_append l m) ∙ sym (append_assoc (word_in x) (body_in l) (body_in m))

module _ (up : List ℕ) (r : Rooted up) where
  abbrev N : ℕ
  N = length up

  abbrev P : ℕ → Option ℕ
  P = parents_in up

  pub top_low : (v : ℕ) → top P N v ≤ v
  top_low v = top_le (tree up r) v

  pub depth_root : depth_of P 0 ≡ 0
  depth_root = depth_none (tree up r) 0 (tree up r).root

  pub depth_more : (v : ℕ) → 1 ≤ v → v < N → depth_of P v ≡ depth_of P (at up v) + 1
  depth_more v a b = let x = depth_some (tree up r) v (at up v) (parent_is up v a b) in omega arith

  pub depth_low : (v : ℕ) → depth_of P v ≤ v
  depth_low v = depth_small (tree up r) v

  module _ (row : List ℕ) (H : HeavyRow up row) (even : length row ≡ length up) (v : ℕ) (pos : 1 ≤ v) (lv : v < length up) where
    pub top_on : at row (at up v) ≡ v → top P N (at up v) ≡ top P N v
    top_on e =
        let b = r.below v pos lv in
        let ne : at row (at up v) ≡ 0 → ⊥ = λ z. omega arith in
        let x : heavy P N (at up v) ≡ Some v = heavy_some_at up row r H even (at up v) (omega arith) ne ∙ ap {B = Option ℕ} Some e in
        sym (top_heavy (tree up r) v (at up v) (parent_is up v pos lv) (heavy_test (tree up r) (at up v) v x)).0

  -- the first node of a path, if it is not the root, is a light child
  pub light_top : (v : ℕ) → v < N → (top P N v ≡ 0 → ⊥) → is_light P N (at up (top P N v)) (top P N v) ≡ true
  light_top v l ne =
      let le = top_low v in
      let e = parent_is up (top P N v) (omega arith) (omega arith) in
      let b = r.below (top P N v) (omega arith) (omega arith) in
      ⊎_elim
      (λ y. let a = (top_heavy (tree up r) (top P N v) (at up (top P N v)) e y).0 in let d = top_top (tree up r) v in let m = top_low (at up (top P N v)) in absurd (omega arith))
      (λ y. light_test (tree up r) (at up (top P N v)) (top P N v) e y)
      (cases_Bool (is_heavy P N (at up (top P N v)) (top P N v)))

  module _ (f : List ℕ → ℕ → Word) where
    pub label_root : (v : ℕ) → v < N → top P N v ≡ 0 → row_label f up v ≡ path (bits (path_word P N f v)) (depth_of P v) ∷ []
    unfolding row_label path_field
    label_root v l z = (definitions_mean P N f (tree up r)).labels.on_root_path v l z

    pub label_more : (v : ℕ) → v < N → (top P N v ≡ 0 → ⊥)
        → row_label f up v ≡ row_label f up (at up (top P N v)) ++ (branch (bits (branch_word P N f (at up (top P N v)) (top P N v))) ∷ path (bits (path_word P N f v)) (depth_of P v) ∷ [])
    unfolding row_label path_field branch_field
    label_more v l ne =
        let le = top_low v in
        (definitions_mean P N f (tree up r)).labels.below v (at up (top P N v)) (parent_is up (top P N v) (omega arith) (omega arith))

    pub fields_root : (v : ℕ) → v < N → top P N v ≡ 0 → 1 ≡ length (row_label f up v)
    fields_root v l z = sym (ap length (label_root v l z))

    pub fields_more : (v : ℕ) → v < N → (top P N v ≡ 0 → ⊥) → length (row_label f up (at up (top P N v))) + 2 ≡ length (row_label f up v)
    fields_more v l ne = sym (ap length (label_more v l ne) ∙ length-append (row_label f up (at up (top P N v))) _)

    pub bits_root : (v : ℕ) → v < N → top P N v ≡ 0 → (path_word P N f v).len ≡ length (body_in (row_label f up v))
    bits_root v l z =
        let a = ap (λ m. length (body_in m)) (label_root v l z) in
        let b = length-append (bits (path_word P N f v)) [] in
        let d = short.word_bits (path_word P N f v) in
        omega arith

    pub bits_more : (v : ℕ) → v < N → (top P N v ≡ 0 → ⊥)
        → length (body_in (row_label f up (at up (top P N v)))) + (branch_word P N f (at up (top P N v)) (top P N v)).len + (path_word P N f v).len ≡ length (body_in (row_label f up v))
    bits_more v l ne =
        let w = branch_word P N f (at up (top P N v)) (top P N v) in
        let x = path_word P N f v in
        let a = ap (λ m. length (body_in m)) (label_more v l ne) in
        let b = ap length (body_append (row_label f up (at up (top P N v))) (branch (bits w) ∷ path (bits x) (depth_of P v) ∷ [])) in
        let c = length-append (body_in (row_label f up (at up (top P N v)))) (bits w ++ (bits x ++ [])) in
        let d = length-append (bits w) (bits x ++ []) in
        let e = length-append (bits x) [] in
        let g = short.word_bits w in
        let h = short.word_bits x in
        omega arith

    pub few_fields : (v : ℕ) → v < N → length (row_label f up v) ≤ most_label_fields
    unfolding row_label
    few_fields v l = (short.few_fields f (tree up r)).at_most v l

    module _ (L : Lawful f) where
      pub path_short : (v : ℕ) → v < N → Fit (path_word P N f v)
      path_short v l = path_fit (tree up r) L v l

      pub branch_short : (p c : ℕ) → is_light P N p c ≡ true → Fit (branch_word P N f p c)
      branch_short p c t = branch_fit (tree up r) L p c t

      pub few_bits : (v : ℕ) → v < N → length (body_in (row_label f up v)) ≤ most_label_bits
      unfolding row_label
      few_bits v l = shape.few_bits f (tree up r) L v l

-- ---- the step up from a node whose path does not begin at the root, in the words of the rows

pub record Above (up : List ℕ) (f : List ℕ → ℕ → Word) (tops plen blen : List ℕ) (v : ℕ) : Type 0 where
  pub top_in : (1 ≤ at tops v) × (at tops v < length up)
  pub below : at up (at tops v) < v
  pub bits_are : (row : List ℕ) → ((w : ℕ) → w < v → at row w ≡ length (body_in (row_label f up w)))
      → at row (at up (at tops v)) + at blen (at tops v) + at plen v ≡ length (body_in (row_label f up v))
  pub fields_are : (row : List ℕ) → ((w : ℕ) → w < v → at row w ≡ length (row_label f up w)) → at row (at up (at tops v)) + 2 ≡ length (row_label f up v)

-- what the rows hold of a tree's paths and words
pub record Worded (f : List ℕ → ℕ → Word) (up tops ph pl plen bh bl blen : List ℕ) : Type 0 where
  pub rooted : Rooted up
  pub topped : TopRow up tops
  pub paths : PathRows f up ph pl plen
  pub branches : BranchRows f up bh bl blen

pub top_in : (up tops : List ℕ) → Rooted up → TopRow up tops → (v : ℕ) → v < length up → at tops v < length up
top_in up tops r T v l = let e = T v l in omega (arith, top_low up r v)

module _ {f : List ℕ → ℕ → Word} {up tops ph pl plen bh bl blen : List ℕ} (W : Worded f up tops ph pl plen bh bl blen) (v : ℕ) (l : v < length up) (ne : at tops v ≡ 0 → ⊥) where
  pub above : Above up f tops plen blen v
  above =
      let r = W.rooted in
      let e = W.topped v l in
      let le = top_low up r v in
      let nz : top (parents_in up) (length up) v ≡ 0 → ⊥ = λ z. ne (e ∙ z) in
      let b = r.below (at tops v) (omega arith) (omega arith) in
      let same : at up (at tops v) ≡ at up (top (parents_in up) (length up) v) = ap (at up) e in
      let br : at blen (at tops v) ≡ (branch_word (parents_in up) (length up) f (at up (top (parents_in up) (length up) v)) (top (parents_in up) (length up) v)).len = ap (at blen) e ∙ (W.branches (at up (top (parents_in up) (length up) v)) (top (parents_in up) (length up) v) (light_top up r v l nz)).1 in
      let pr = (W.paths v l).1 in
      record {
        top_in = (omega arith, omega arith);
        below = omega arith;
        bits_are = λ row h. let x = h (at up (at tops v)) (omega arith) in
            let y = ap (λ (w : ℕ). length (body_in (row_label f up w))) same in
            let m = bits_more up r f v l nz in omega arith;
        fields_are = λ row h. let x = h (at up (at tops v)) (omega arith) in
            let y = ap (λ (w : ℕ). length (row_label f up w)) same in
            let m = fields_more up r f v l nz in omega arith;
      }
