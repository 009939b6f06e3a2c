-- The label that a row of bytes reads as, field by field.
use Rattle.std.proofs.Common.{◌≡◌, ℕ, zero, suc, ◌+◌, ◌*◌, ◌/◌, ◌%◌, Bool, true, false, cond, eqb, List, [], ◌∷◌, map, refl, ap, ◌∙◌, arith}
use Rattle.std.proofs.lemmas.Grind.{common_steps}
use Rattle.std.proofs.lemmas.Bool.Decides.{nat_tests}
use Rattle.std.specs.List.{range_with_len}
use Rattle.formats.specs.Label.{Word, path, branch, Label, word_in, words_in, depths_in}
use Rattle.formats.specs.Layout.{count_of, depth_at}
use Rattle.formats.specs.Words.{word_at}
use Rattle.formats.specs.Models.{field_by, field_at, label_of}

pub field_even : (i : ℕ) (w : Word) (d : ℕ) → i % 2 ≡ 0 → field_by i w d ≡ path w d
field_even i w d h = grind (arith, nat_tests, common_steps)

pub field_odd : (i : ℕ) (w : Word) (d : ℕ) → i % 2 ≡ 1 → field_by i w d ≡ branch w
field_odd i w d h = grind (arith, nat_tests, common_steps)

pub word_by : (i : ℕ) (w : Word) (d : ℕ) → word_in (field_by i w d) ≡ w
word_by i w d = go (eqb (i % 2) 0)
  where
    go : (t : Bool) → word_in (cond t (path w d) (branch w)) ≡ w
    go true = refl
    go false = refl

module _ (bs : List ℕ) where
  -- the fields from the path field 2 * i on, n + 1 of them path fields
  abbrev pub tail_at : ℕ → ℕ → Label
  tail_at i n = map (field_at bs) (range_with_len (2 * i) (suc (2 * n)))

  pub path_here : (i : ℕ) → field_at bs (2 * i) ≡ path (word_at bs (2 * i)) (depth_at bs i)
  path_here i = grind (arith, nat_tests, common_steps)

  branch_here : (i : ℕ) → field_at bs (2 * i + 1) ≡ branch (word_at bs (2 * i + 1))
  branch_here i = grind (arith, nat_tests, common_steps)

  pub tail_last : (i : ℕ) → tail_at i 0 ≡ path (word_at bs (2 * i)) (depth_at bs i) ∷ []
  tail_last i = ap (λ f. f ∷ []) (path_here i)

  pub tail_more : (i n : ℕ) → tail_at i (suc n) ≡ path (word_at bs (2 * i)) (depth_at bs i) ∷ branch (word_at bs (2 * i + 1)) ∷ tail_at (i + 1) n
  tail_more i n =
      let z : suc (2 * suc n) ≡ suc (suc (suc (2 * n))) = omega arith in
      let y : 2 * i + 1 + 1 ≡ 2 * (i + 1) = omega arith in
      ap (λ k. map (field_at bs) (range_with_len (2 * i) k)) z
      ∙ (λ t. path_here i t ∷ branch_here i t ∷ map (field_at bs) (range_with_len (y t) (suc (2 * n))))

  pub label_tail : count_of bs % 2 ≡ 1 → label_of bs ≡ tail_at 0 (count_of bs / 2)
  label_tail odd =
      let z : count_of bs ≡ suc (2 * (count_of bs / 2)) = omega arith in
      ap (λ k. map (field_at bs) (range_with_len 0 k)) z

  pub words_are_at : (n i : ℕ) → words_in (map (field_at bs) (range_with_len i n)) ≡ map (word_at bs) (range_with_len i n)
  words_are_at zero i = refl
  words_are_at (suc n) i = let e = word_by i (word_at bs i) (depth_at bs (i / 2)) in let r = words_are_at n (i + 1) in λ t. e t ∷ r t

  depths_from : (n i : ℕ) → depths_in (tail_at i n) ≡ map (depth_at bs) (range_with_len i (suc n))
  depths_from zero i = ap depths_in (tail_last i)
  depths_from (suc n) i = ap depths_in (tail_more i n) ∙ ap (λ r. depth_at bs i ∷ r) (depths_from n (i + 1))

  pub depths_are_at : count_of bs % 2 ≡ 1 → depths_in (label_of bs) ≡ map (depth_at bs) (range_with_len 0 ((count_of bs + 1) / 2))
  depths_are_at odd =
      let z : suc (count_of bs / 2) ≡ (count_of bs + 1) / 2 = omega arith in
      ap depths_in (label_tail odd) ∙ depths_from (count_of bs / 2) 0 ∙ ap (λ n. map (depth_at bs) (range_with_len 0 n)) z
