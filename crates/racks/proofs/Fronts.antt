-- The first fields of a tag, written over the front of an output with room for any tag.
use Rattle.std.proofs.Common.{◌≡◌, ℕ, ◌-◌, ◌%◌, ◌≤◌, List, length, take, drop, None, Ok, Result, refl, ap, ◌∙◌, arith}
use Rattle.std.specs.List.{refill}
use Rattle.std.proofs.lemmas.List.{take_at}
use Rattle.formats.specs.declared.fault.CutRefusal.{CutRefusal}
use Rattle.formats.specs.Faults.{tag_fault}
use Rattle.formats.specs.Layout.{count_of}
use Rattle.formats.specs.Limits.{most_tag_bytes}
use Rattle.formats.specs.Models.{outcome}
use Rattle.formats.specs.Cuts.{cut_tag, cut_fault, cut_answer, cut_output, written_over}
use Rattle.formats.specs.Theorems.{Bytes}
use Rattle.formats.proofs.Readable.{is_readable}
use Rattle.formats.proofs.Spans.{span}
use Rattle.formats.proofs.CutTags.{cut_fine}

module _ (bs : List ℕ) (m : ℕ) (small : Bytes bs) (f : tag_fault bs ≡ None) (odd : m % 2 ≡ 1) (within : m ≤ count_of bs) (out : List ℕ) (room : length out ≡ most_tag_bytes) where
  fine : cut_fault bs m (length out) ≡ None
  fine =
      let ok = is_readable bs f in
      let s = span bs ok (m - 1) (omega arith) in
      cut_fine bs m small f odd within (length out) (omega (arith, ok.few, s.low))

  -- there is room for it
  pub front_made : (r : Result ℕ CutRefusal) → r ≡ cut_answer bs m (length out) → r ≡ Ok (length (cut_tag bs m))
  front_made r e = e ∙ ap (λ o. outcome o (length (cut_tag bs m))) fine

  -- and the first bytes are the tag
  pub front_bytes : (new : List ℕ) → new ≡ cut_output bs m out → take (length (cut_tag bs m)) new ≡ cut_tag bs m
  front_bytes new e =
      ap (take (length (cut_tag bs m))) (e ∙ ap (λ o. written_over o (cut_tag bs m) out) fine)
      ∙ take_at (cut_tag bs m) (drop (length (cut_tag bs m)) out) (length (cut_tag bs m)) refl

-- an array written over by as many bytes
pub refilled : (n : ℕ) (old new : List ℕ) → length new ≡ n → refill n old new ≡ new
refilled n old new h = take_at new (drop (length new) old) n h
