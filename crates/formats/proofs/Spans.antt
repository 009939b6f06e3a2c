-- Bounds of the fields of a readable row.
use Rattle.std.proofs.Common.{◌≡◌, ℕ, zero, suc, ◌+◌, ◌-◌, ◌/◌, ◌<◌, ◌≤◌, List, subst, ⊎_elim, arith}
use Rattle.std.proofs.lemmas.Grind.{common_steps}
use Rattle.std.proofs.lemmas.Bool.Decides.{nat_tests}
use Rattle.std.proofs.lemmas.Bool.{and_parts, ltb-true, leb-true, cases_eq}
use Rattle.formats.specs.Limits.{most_field_bits, most_body_bits, most_depth}
use Rattle.formats.specs.Layout.{begin_at, end_at, depth_at, count_of, end_fine, depth_fine, bits_of}
use Rattle.formats.proofs.Below.{all_at}
use Rattle.formats.proofs.Readable.{Readable}

-- what holds of the ends of a field
pub record Span (bs : List ℕ) (i : ℕ) : Type 0 where
  pub some : begin_at bs i < end_at bs i
  pub short : end_at bs i ≤ begin_at bs i + most_field_bits
  pub low : end_at bs i ≤ most_body_bits
  pub inside : end_at bs i ≤ bits_of bs

module _ (bs : List ℕ) (ok : Readable bs) where
  rises : (i : ℕ) → i < count_of bs → begin_at bs i < end_at bs i
  rises i l = ltb-true _ _ (and_parts _ _ (all_at (end_fine bs) (count_of bs) i ok.ends l)).0

  pub upward : (n i : ℕ) → n < count_of bs → i ≤ n → end_at bs i ≤ end_at bs n
  upward zero i l le = let e : i ≡ 0 = omega arith in subst (λ j. end_at bs i ≤ end_at bs j) e (omega arith)
  upward (suc n) i l le =
      ⊎_elim
      (λ e. subst (λ j. end_at bs i ≤ end_at bs j) e (omega arith))
      (λ e. let a : end_at bs i ≤ end_at bs n = upward n i (omega arith) (omega arith) in let b : end_at bs n < end_at bs (suc n) = rises (suc n) l in omega arith)
      (cases_eq i (suc n))

  pub span : (i : ℕ) → i < count_of bs → Span bs i
  span i l =
      let t = and_parts _ _ (all_at (end_fine bs) (count_of bs) i ok.ends l) in
      let u = and_parts _ _ t.1 in
      record {
        some = ltb-true _ _ t.0;
        short = leb-true _ _ u.0;
        low = leb-true _ _ u.1;
        inside = upward (count_of bs - 1) i (omega arith) (omega arith);
      }

  pub shallow : (j : ℕ) → j < (count_of bs + 1) / 2 → depth_at bs j ≤ most_depth
  shallow j l = leb-true _ _ (and_parts _ _ (all_at (depth_fine bs) ((count_of bs + 1) / 2) j ok.depths l)).1

-- a field begins where the one before it ends
pub begin_past : (bs : List ℕ) (i : ℕ) → (i ≡ 0 → ⊥) → end_at bs (i - 1) ≡ begin_at bs i
begin_past bs zero h = grind (arith, nat_tests, common_steps)
begin_past bs (suc i) h = grind (arith, nat_tests, common_steps)
