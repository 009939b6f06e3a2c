-- A cut tag is the bytes of its first fields.
use Rattle.std.proofs.Common.{◌≡◌, ℕ, ◌+◌, ◌-◌, ◌*◌, ◌%◌, ◌<◌, ◌≤◌, ltb, List, [], ◌∷◌, ◌++◌, length, get_or, take, drop, Some, None, Ok, Err, sym, ap, ◌∙◌, subst, arith}
use Rattle.std.proofs.lemmas.Grind.{common_steps}
use Rattle.std.proofs.lemmas.Bool.Decides.{nat_tests}
use Rattle.std.proofs.lemmas.List.FromFn.{take-map-range_with_len}
use Rattle.std.proofs.lemmas.List.{take_at}
use Rattle.std.proofs.lemmas.Bool.{cond-true, cond-false, le-ltb, lt-ltb}
use Rattle.formats.specs.declared.fault.CutRefusal.TheVariants.{Room}
use Rattle.formats.specs.Faults.{first_of, tag_fault}
use Rattle.formats.specs.Layout.{tree_of, count_of, end_at, spare_of}
use Rattle.formats.specs.Models.{tag_bytes, field_at, label_of, outcome, read_tag}
use Rattle.formats.specs.Cuts.{cut_tag, cut_fault, cut_answer, written_over, cut_output}
use Rattle.formats.specs.Theorems.{Bytes, Shortened}
use Rattle.formats.proofs.Readable.{Readable, no_fault, is_readable}
use Rattle.formats.proofs.Small.{bytes_append, bytes_between, byte_one}
use Rattle.formats.proofs.Spans.{span}
use Rattle.formats.proofs.Round.{round}
use Rattle.formats.proofs.Cutting.{cleared, last_of, cut_with, cut_bytes, cut_size, kept}
use Rattle.formats.proofs.CutReads.{cut_shorter}

bytes_cut : (bs : List ℕ) (k m l : ℕ) → Bytes bs → m ≤ 63 → Bytes (cut_with bs k m l)
bytes_cut bs k m l p h =
    bytes_append _ _
    (bytes_append _ _
    (bytes_append _ _ (bytes_append _ _ (bytes_append _ _ (bytes_between bs 0 2 p) (byte_one m (omega arith))) (bytes_between bs 3 (3 + 2 * m) p)) (bytes_between bs (3 + 2 * k) (3 + 2 * k + (m + 1)) p))
    (bytes_between bs (3 * k + 4) (last_of k l) p))
    (byte_one (cleared (get_or bs (last_of k l) 0) (spare_of l)) (omega (arith, p (last_of k l))))

module _ (bs : List ℕ) (m : ℕ) (small : Bytes bs) (f : tag_fault bs ≡ None) (odd : m % 2 ≡ 1) (within : m ≤ count_of bs) where
  ok : Readable bs
  ok = is_readable bs f

  -- a cut tag is the bytes of its first fields
  pub cut_is : cut_bytes bs m ≡ cut_tag bs m
  cut_is =
      let s = cut_shorter bs m ok odd within in
      let n = s.number in
      let v = s.label in
      sym (round (cut_bytes bs m) (bytes_cut bs (count_of bs) m (end_at bs (m - 1)) small (omega (arith, ok.few))) s.readable) ∙ (λ t. tag_bytes (n t) (v t))

  pub cut_long : length (cut_tag bs m) ≡ cut_size bs m
  cut_long =
      let s = span bs ok (m - 1) (omega arith) in
      sym (ap length cut_is)
      ∙ (kept bs (count_of bs) m (end_at bs (m - 1)) within (omega (arith, s.some)) (omega (arith, s.inside, ok.size))).size

  to_room : (room : ℕ) → cut_fault bs m room ≡ first_of ((ltb room (length (cut_tag bs m)), Room) ∷ [])
  to_room room = grind (arith, nat_tests, common_steps)

  -- refused for want of room, and only for that
  pub cut_room : (room : ℕ) → room < cut_size bs m → cut_fault bs m room ≡ Some Room
  cut_room room h = to_room room ∙ cond-true _ _ _ (lt-ltb room (length (cut_tag bs m)) (omega (arith, cut_long)))

  pub cut_fine : (room : ℕ) → cut_size bs m ≤ room → cut_fault bs m room ≡ None
  cut_fine room h = to_room room ∙ cond-false _ _ _ (le-ltb room (length (cut_tag bs m)) (omega (arith, cut_long)))

  pub room_answer : (room : ℕ) → room < cut_size bs m → Err Room ≡ cut_answer bs m room
  room_answer room h = sym (ap (λ o. outcome o (length (cut_tag bs m))) (cut_room room h))

  pub room_output : (out : List ℕ) → length out < cut_size bs m → out ≡ cut_output bs m out
  room_output out h = sym (ap (λ o. written_over o (cut_tag bs m) out) (cut_room (length out) h))

  pub done_answer : (room : ℕ) → cut_size bs m ≤ room → Ok (cut_size bs m) ≡ cut_answer bs m room
  done_answer room h = let e = cut_fine room h in let n = cut_long in sym (λ t. outcome (e t) (n t))

  pub done_output : (out : List ℕ) → cut_size bs m ≤ length out → cut_bytes bs m ++ drop (cut_size bs m) out ≡ cut_output bs m out
  done_output out h =
      let e = cut_fine (length out) h in
      let n = cut_long in
      let c = cut_is in
      ap (λ xs. xs ++ drop (cut_size bs m) out) c ∙ ap (λ k. cut_tag bs m ++ drop k out) (sym n) ∙ sym (ap (λ o. written_over o (cut_tag bs m) out) e)

  -- what is written, read again
  pub cut_reads : Shortened bs m (cut_tag bs m)
  cut_reads =
      let s = cut_shorter bs m ok odd within in
      let c = cut_is in
      let k = no_fault (cut_bytes bs m) s.readable in
      let n = s.number in
      let v = s.label in
      record {
        reads = sym (ap read_tag c) ∙ (λ t. outcome (k t) (n t, v t));
        whole = λ e. ap (λ i. tag_bytes (tree_of bs) (take i (label_of bs))) e ∙ ap (tag_bytes (tree_of bs)) (take-map-range_with_len (field_at bs) 0 (count_of bs) (count_of bs) (omega arith)) ∙ round bs small ok;
      }

  pub done_reads : (out : List ℕ) → cut_size bs m ≤ length out → Shortened bs m (take (cut_size bs m) (cut_output bs m out))
  done_reads out h =
      subst (Shortened bs m)
      (cut_is_tag ∙ ap (take (cut_size bs m)) (done_output out h))
      cut_reads
    where
      cut_is_tag : cut_tag bs m ≡ take (cut_size bs m) (cut_bytes bs m ++ drop (cut_size bs m) out)
      cut_is_tag = sym (take_at (cut_bytes bs m) (drop (cut_size bs m) out) (cut_size bs m) (ap length cut_is ∙ cut_long) ∙ cut_is)
