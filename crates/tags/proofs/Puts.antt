-- The parts of an output, each written over.
use Rattle.std.proofs.Common.{◌≡◌, ℕ, ◌+◌, ◌-◌, ◌*◌, ◌/◌, ◌%◌, ◌<◌, ◌≤◌, List, [], ◌∷◌, ◌++◌, length, get_or, set, drop, sym, refl, ap, ◌∙◌, append_assoc, arith}
use Rattle.std.specs.List.{between}
use Rattle.std.proofs.lemmas.List.{drop-drop}
use Rattle.formats.specs.Layout.{count_of, end_at, spare_of}
use Rattle.formats.proofs.Readable.{is_readable}
use Rattle.formats.proofs.Spans.{span}
use Rattle.tags.specs.declared.tag.Tag.{Tag}
use Rattle.tags.specs.Views.{raw}
use Rattle.formats.proofs.Cutting.{cut_with, last_of, cleared}

-- what is left of a list, and of what is left
pub down : (d r s : List ℕ) (a n b : ℕ) → r ≡ drop a d → s ≡ drop n r → a + n ≡ b → s ≡ drop b d
down d r s a n b e f q = f ∙ ap (drop n) e ∙ drop-drop n a d ∙ ap (λ k. drop k d) q

none : (xs : List ℕ) → length xs ≡ 0 → xs ≡ []
none [] e = refl
none (x ∷ xs) e = absurd (omega (arith, e))

one_set : (xs : List ℕ) (v : ℕ) → length xs ≡ 1 → set xs 0 v ≡ v ∷ []
one_set [] v e = absurd (omega (arith, e))
one_set (x ∷ xs) v e = ap (λ (ys : List ℕ). v ∷ ys) (none xs (omega (arith, e)))

first_set : (xs : List ℕ) (v : ℕ) → 0 < length xs → set xs 0 v ≡ v ∷ drop 1 xs
first_set [] v l = absurd (omega (arith, l))
first_set (x ∷ xs) v l = refl

six : (a c x y z v r : List ℕ) → a ++ (c ++ (x ++ (y ++ (z ++ (v ++ r))))) ≡ (((((a ++ c) ++ x) ++ y) ++ z) ++ v) ++ r
six a c x y z v r =
    sym (append_assoc a c _)
    ∙ sym (append_assoc (a ++ c) x _)
    ∙ sym (append_assoc ((a ++ c) ++ x) y _)
    ∙ sym (append_assoc (((a ++ c) ++ x) ++ y) z _)
    ∙ sym (append_assoc ((((a ++ c) ++ x) ++ y) ++ z) v r)

-- the six parts of a cut tag, one after the other
pub wrote_cut : (bs d c r : List ℕ) (k m l h e p g b : ℕ) → length c ≡ 1 → 0 < length r → drop 1 r ≡ drop (3 * m + 4 + (l + 7) / 8) d → h ≡ 3 * k + 4 → e ≡ 3 + 2 * m → p ≡ 3 + 2 * k → g ≡ last_of k l → b ≡ cleared (get_or bs g 0) (spare_of l) → between 0 2 bs ++ (set c 0 m ++ (between 3 e bs ++ (between p (p + (m + 1)) bs ++ (between h g bs ++ set r 0 b)))) ≡ cut_with bs k m l ++ drop (3 * m + 4 + (l + 7) / 8) d
wrote_cut bs d c r k m l h e p g b one some rest head ends depths last byte =
    let n = one_set c m one in
    let v : b ≡ cleared (get_or bs (last_of k l) 0) (spare_of l) = byte ∙ ap (λ i. cleared (get_or bs i 0) (spare_of l)) last in
    let s : set r 0 b ≡ cleared (get_or bs (last_of k l) 0) (spare_of l) ∷ drop (3 * m + 4 + (l + 7) / 8) d = first_set r b some ∙ (λ t. v t ∷ rest t) in
    (λ t. between 0 2 bs ++ (n t ++ (between 3 (ends t) bs ++ (between (depths t) (depths t + (m + 1)) bs ++ (between (head t) (last t) bs ++ s t)))))
    ∙ six (between 0 2 bs) (m ∷ []) (between 3 (3 + 2 * m) bs) (between (3 + 2 * k) (3 + 2 * k + (m + 1)) bs) (between (3 * k + 4) (last_of k l) bs) (cleared (get_or bs (last_of k l) 0) (spare_of l) ∷ []) (drop (3 * m + 4 + (l + 7) / 8) d)

-- a tag has the bytes of its first fields
pub parts_fit : (t : Tag) (m : ℕ) → m % 2 ≡ 1 → m ≤ count_of (raw t) → (0 < end_at (raw t) (m - 1)) × (3 * count_of (raw t) + 4 + (end_at (raw t) (m - 1) + 7) / 8 ≤ length (raw t))
parts_fit t m odd within =
    let ok = is_readable (raw t) t.readable in
    let s = span (raw t) ok (m - 1) (omega arith) in
    (omega (arith, s.some), omega (arith, s.inside, ok.size))
