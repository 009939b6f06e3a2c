-- Bytes without a fault, in facts.
use Rattle.std.proofs.Common.{◌≡◌, ℕ, ◌+◌, ◌/◌, ◌%◌, ◌<◌, ◌≤◌, Bool, true, false, cond, eqb, ltb, List, length, Some, None, Option, refl, arith}
use Rattle.std.proofs.lemmas.Grind.{common_steps}
use Rattle.std.proofs.lemmas.Bool.Decides.{nat_tests}
use Rattle.std.proofs.lemmas.Bool.{or_parts, ltb-false, eqb-false, eqb-true, not-false}
use Rattle.formats.specs.Limits.{most_fields}
use Rattle.formats.specs.Layout.{tree_of, count_of, size_of, ends_fine, depths_fine, spare_at}
use Rattle.formats.specs.Faults.{tag_fault}

-- what holds of bytes that are a tag
pub record Readable (bs : List ℕ) : Type 0 where
  pub number : 0 < tree_of bs
  pub odd : count_of bs % 2 ≡ 1
  pub few : count_of bs ≤ most_fields
  pub ends : ends_fine bs (count_of bs) ≡ true
  pub depths : depths_fine bs ((count_of bs + 1) / 2) ≡ true
  pub size : length bs ≡ size_of bs
  pub spare : spare_at bs ≡ 0

pub no_fault : (bs : List ℕ) → Readable bs → tag_fault bs ≡ None
unfolding tag_fault
no_fault bs ok = grind (arith, nat_tests, common_steps)

pub none_from : {X : Type 0} (b : Bool) (x : X) (r : Option X) → cond b (Some x) r ≡ None → (b ≡ false) × (r ≡ None)
none_from true x r h = let z : ◌≡◌ {A = ℕ} 0 1 = cc in absurd (omega arith)
none_from false x r h = (refl, h)

pub is_readable : (bs : List ℕ) → tag_fault bs ≡ None → Readable bs
unfolding tag_fault
is_readable bs h =
    let t0 = none_from _ _ _ h in
    let t1 = none_from _ _ _ t0.1 in
    let t2 = none_from _ _ _ t1.1 in
    let t3 = none_from _ _ _ t2.1 in
    let t4 = none_from _ _ _ t3.1 in
    let t5 = none_from _ _ _ t4.1 in
    let t6 = none_from _ _ _ t5.1 in
    let a = or_parts (ltb (length bs) 3) (eqb (tree_of bs) 0) t0.0 in
    let b = or_parts (eqb (count_of bs % 2) 0) (ltb most_fields (count_of bs)) t1.0 in
    record {
      number = some (tree_of bs) (eqb-false (tree_of bs) 0 a.1);
      odd = odd (count_of bs) (eqb-false (count_of bs % 2) 0 b.0);
      few = ltb-false _ _ b.1;
      ends = not-false _ t3.0;
      depths = not-false _ t4.0;
      size = eqb-true _ _ (not-false _ t5.0);
      spare = eqb-true _ _ (not-false _ t6.0);
    }
  where
    some : (n : ℕ) → (n ≡ 0 → ⊥) → 0 < n
    some n h = omega arith

    odd : (n : ℕ) → (n % 2 ≡ 0 → ⊥) → n % 2 ≡ 1
    odd n h = omega arith
