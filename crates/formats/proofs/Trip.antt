-- The round trips, and the marked example.
use Rattle.std.proofs.Common.{◌≡◌, ℕ, zero, suc, ◌+◌, ◌/◌, ◌<◌, ◌≤◌, List, [], ◌∷◌, ◌++◌, length, get_or, None, Ok, refl, ap, subst, ⊎_elim, arith}
use Rattle.std.specs.List.{flat_map}
use Rattle.std.proofs.lemmas.List.FromFn.{length-map-range_with_len, get_or-map-range_with_len}
use Rattle.std.proofs.lemmas.List.{get_or_past}
use Rattle.std.proofs.lemmas.Bool.{cases_lt}
use Rattle.formats.specs.Label.{Word, Label, words_in, depths_in, body_in, Fine}
use Rattle.formats.specs.Layout.{tree_of}
use Rattle.formats.specs.Faults.{tag_fault}
use Rattle.formats.specs.Words.{byte_at, pack}
use Rattle.formats.specs.Models.{two, ends_from, tag_bytes, label_of, outcome, read_tag}
use Rattle.formats.specs.Theorems.{Bytes, RoundTrip, Reads, Marked}
use Rattle.formats.proofs.Readable.{is_readable}
use Rattle.formats.proofs.Bits.{eight}
use Rattle.formats.proofs.Chains.{flat_all, ends_at, length_ends, chain_shallow}
use Rattle.formats.proofs.Written.{reads_back, length_tag}
use Rattle.formats.proofs.Small.{bytes_append, byte_one}
use Rattle.formats.proofs.Read.{outcome_ok, written_back, fine_label}

small_two : (xs : List ℕ) → ((i : ℕ) → i < length xs → get_or xs i 0 < 65536) → Bytes (flat_map two xs)
small_two [] h i = omega arith
small_two (x ∷ xs) h i =
    let b : x < 65536 = h 0 (omega arith) in
    bytes_append (two x) (flat_map two xs) (pair x b) (small_two xs (λ i g. h (suc i) (omega arith))) i
  where
    pair : (y : ℕ) → y < 65536 → Bytes (two y)
    pair y g zero = omega arith
    pair y g (suc zero) = omega arith
    pair y g (suc (suc i)) = omega arith

small_pack : (w : Word) → Bytes (pack w)
small_pack w i =
    ⊎_elim
    (λ h. let v = eight w i in omega (arith, get_or-map-range_with_len (byte_at w) 0 ((length w + 7) / 8) i i 0 h (omega arith)))
    (λ h. omega (arith, get_or_past (pack w) i 0 (omega (arith, length-map-range_with_len (byte_at w) 0 ((length w + 7) / 8)))))
    (cases_lt i ((length w + 7) / 8))

small_tag : (number : ℕ) (l : Label) → number ≤ 65535 → Fine l → Bytes (tag_bytes number l)
unfolding tag_bytes
small_tag number l h f =
    bytes_append (two number) (length l ∷ flat_map two (ends_from 0 (words_in l)) ++ (flat_map two (depths_in l) ++ pack (body_in l)))
    (λ i. low number h i)
    (bytes_append (length l ∷ []) (flat_map two (ends_from 0 (words_in l)) ++ (flat_map two (depths_in l) ++ pack (body_in l)))
    (byte_one (length l) (omega (arith, f.few)))
    (bytes_append (flat_map two (ends_from 0 (words_in l))) (flat_map two (depths_in l) ++ pack (body_in l))
    (small_two (ends_from 0 (words_in l)) (λ i g. omega (arith, ends_at 0 (words_in l) i (omega (arith, length_ends 0 (words_in l))), flat_all (words_in l) (suc i), f.short)))
    (bytes_append (flat_map two (depths_in l)) (pack (body_in l)) (small_two (depths_in l) (λ i g. omega (arith, chain_shallow 0 l f.chain i g))) (small_pack (body_in l)))))
  where
    low : (n : ℕ) → n ≤ 65535 → Bytes (two n)
    low n g zero = omega arith
    low n g (suc zero) = omega arith
    low n g (suc (suc i)) = omega arith

pub trip : RoundTrip
trip = record {
  bytes = λ number l w. small_tag number l w.small w.label;
  short = λ number l w. omega (arith, length_tag number l w.label, w.label.few, w.label.short);
  back = λ number l w. reads_back number l w.label w.some;
  same = written_back;
  well = λ bs small number l h.
      let p = outcome_ok _ (tree_of bs, label_of bs) (number, l) h in
      let q = p.1 in
      let ok = is_readable bs p.0 in
      let n : tree_of bs ≡ number = (λ t. (q t).0) in
      record {
        some = omega (arith, ok.number, n);
        small = omega (arith, n, small 0, small 1);
        label = subst Fine (λ t. (q t).1) (fine_label bs small ok);
      };
}

pub reads_as : (bs : List ℕ) → Bytes bs → tag_fault bs ≡ None → Reads bs
reads_as bs small f =
    let r : read_tag bs ≡ Ok (tree_of bs, label_of bs) = ap (λ o. outcome o (tree_of bs, label_of bs)) f in
    let s = trip.same bs small (tree_of bs) (label_of bs) r in
    let w = trip.well bs small (tree_of bs) (label_of bs) r in
    record { reads = r; same = s; well = w; short = omega (arith, trip.short (tree_of bs) (label_of bs) w, ap length s) }

pub marked : Marked
unfolding tag_bytes tag_fault
marked = record { writes = refl; reads = refl }
