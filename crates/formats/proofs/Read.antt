-- What a readable row reads as can be written, and gives the row.
use Rattle.std.proofs.Common.{◌≡◌, ℕ, zero, suc, ◌+◌, ◌-◌, ◌*◌, ◌/◌, ◌<◌, ◌≤◌, List, length, drop, Some, None, Ok, Err, Option, sym, ap, ◌∙◌, subst, add-one, arith}
use Rattle.std.proofs.lemmas.Grind.{common_steps}
use Rattle.std.proofs.lemmas.Bool.Decides.{nat_tests}
use Rattle.std.proofs.lemmas.List.FromFn.{length-map-range_with_len}
use Rattle.std.proofs.lemmas.Bool.{and_parts, leb-true}
use Rattle.formats.specs.Limits.{most_depth}
use Rattle.formats.specs.Label.{Label, Fit, Chain, Fine}
use Rattle.formats.specs.Layout.{count_of, tree_of, head_of, bits_of, begin_at, end_at, depth_at, least_at, depth_fine}
use Rattle.formats.proofs.Readable.{Readable}
use Rattle.formats.specs.Words.{word_at}
use Rattle.formats.specs.Models.{tag_bytes, field_at, label_of, outcome, read_tag}
use Rattle.formats.specs.Theorems.{Bytes}
use Rattle.formats.proofs.Readable.{is_readable}
use Rattle.formats.proofs.Below.{all_at}
use Rattle.formats.proofs.Bits.{length_bits}
use Rattle.formats.proofs.Spans.{span}
use Rattle.formats.proofs.Fields.{tail_at, tail_last, tail_more, label_tail}
use Rattle.formats.proofs.Round.{bits_are, round}

module _ (bs : List ℕ) (ok : Readable bs) where
  fit : (i : ℕ) → i < count_of bs → Fit (word_at bs i)
  fit i l =
      let n = length_bits (drop (head_of bs) bs) (begin_at bs i) (end_at bs i - begin_at bs i) in
      let s = span bs ok i l in
      (omega (arith, s.some), omega (arith, s.short))

  low : (j : ℕ) → j < (count_of bs + 1) / 2 → least_at bs j ≤ depth_at bs j
  low j l = leb-true _ _ (and_parts _ _ (all_at (depth_fine bs) ((count_of bs + 1) / 2) j ok.depths l)).0

  shallow : (j : ℕ) → j < (count_of bs + 1) / 2 → depth_at bs j ≤ most_depth
  shallow j l = leb-true _ _ (and_parts _ _ (all_at (depth_fine bs) ((count_of bs + 1) / 2) j ok.depths l)).1

  chain_from : (n i : ℕ) → i + n < (count_of bs + 1) / 2 → Chain (least_at bs i) (tail_at bs i n)
  chain_from zero i h =
      subst (Chain (least_at bs i)) (sym (tail_last bs i)) (fit (2 * i) (omega arith), low i (omega arith), shallow i (omega arith))
  chain_from (suc n) i h =
      let z : least_at bs (i + 1) ≡ suc (depth_at bs i) = ap (least_at bs) (add-one i) ∙ add-one (depth_at bs i) in
      subst (Chain (least_at bs i)) (sym (tail_more bs i n)) (
        fit (2 * i) (omega arith),
        low i (omega arith),
        shallow i (omega arith),
        fit (2 * i + 1) (omega arith),
        subst (λ d. Chain d (tail_at bs (i + 1) n)) z (chain_from n (i + 1) (omega arith)),
      )

  pub chain_of : Chain 0 (label_of bs)
  chain_of = subst (Chain 0) (sym (label_tail bs ok.odd)) (chain_from (count_of bs / 2) 0 (omega (arith, ok.odd)))

  pub length_label : length (label_of bs) ≡ count_of bs
  length_label = length-map-range_with_len (field_at bs) 0 (count_of bs)

pub fine_label : (bs : List ℕ) → Bytes bs → Readable bs → Fine (label_of bs)
fine_label bs small ok = record {
  chain = chain_of bs ok;
  few = omega (arith, length_label bs ok, ok.few);
  short = omega (arith, ap length (bits_are bs small ok), length_bits (drop (head_of bs) bs) 0 (bits_of bs), (span bs ok (count_of bs - 1) (omega (arith, ok.odd))).low);
}

pub outcome_ok : {X E : Type 0} (o : Option E) (x y : X) → outcome o x ≡ Ok y → (o ≡ None) × (x ≡ y)
outcome_ok None x y h = grind (arith, nat_tests, common_steps)
outcome_ok (Some e) x y h = grind (arith, nat_tests, common_steps)

pub outcome_err : {X E : Type 0} (o : Option E) (x : X) (e : E) → Err e ≡ outcome o x → o ≡ Some e
outcome_err None x e h = grind (arith, nat_tests, common_steps)
outcome_err (Some f) x e h = grind (arith, nat_tests, common_steps)

-- a row that is read is the bytes of what it reads as
pub written_back : (bs : List ℕ) → Bytes bs → (number : ℕ) (l : Label) → read_tag bs ≡ Ok (number, l) → tag_bytes number l ≡ bs
written_back bs small number l h =
    let p = outcome_ok _ (tree_of bs, label_of bs) (number, l) h in
    let q = p.1 in
    sym (λ t. tag_bytes (q t).0 (q t).1) ∙ round bs small (is_readable bs p.0)
