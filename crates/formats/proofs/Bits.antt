-- Bits of words and of packed bytes.
use Rattle.std.proofs.Common.{◌≡◌, ℕ, zero, suc, ◌+◌, ◌-◌, ◌*◌, ◌/◌, ◌%◌, ◌^◌, ◌<◌, ◌≤◌, Bool, true, false, eqb, List, [], ◌∷◌, length, get_or, drop, sym, refl, ap, ◌∙◌, arith, get_or-drop}
use Rattle.std.specs.List.{between}
use Rattle.std.proofs.lemmas.List.FromFn.{length-map-range_with_len, get_or-map-range_with_len, fill_by_all}
use Rattle.std.proofs.lemmas.List.Edits.{get_or-between}
use Rattle.std.proofs.lemmas.Bool.{cond-true, cond-false}
use Rattle.formats.specs.Label.{Word}
use Rattle.formats.specs.Layout.{head_of, begin_at, end_at, bit_at}
use Rattle.formats.proofs.Spans.{Span}
use Rattle.formats.specs.Words.{bits_at, word_at, byte_at, pack, digit, digit_at}
use Rattle.formats.specs.Pairs.{same_bit, lead}

pub length_bits : (bs : List ℕ) (from n : ℕ) → length (bits_at bs from n) ≡ n
length_bits bs from n = length-map-range_with_len (λ t. bit_at bs (from + t)) 0 n

pub get_d_bits : (bs : List ℕ) (from n t : ℕ) → t < n → get_or (bits_at bs from n) t false ≡ bit_at bs (from + t)
get_d_bits bs from n t l = get_or-map-range_with_len (λ u. bit_at bs (from + u)) 0 n t t false l (omega arith)

-- two bits are equal where their bytes and their places in these are
pub bit_same : (xs ys : List ℕ) (i j : ℕ) → get_or xs (i / 8) 0 ≡ get_or ys (j / 8) 0 → i % 8 ≡ j % 8 → bit_at xs i ≡ bit_at ys j
bit_same xs ys i j p q = λ t. eqb (p t / 2 ^ (7 - q t) % 2) 1

-- the word that the bytes touched by a field hold
pub word_touched : (bs : List ℕ) (i : ℕ) → Span bs i → bits_at (between (head_of bs + begin_at bs i / 8) (head_of bs + (end_at bs i + 7) / 8) bs) (begin_at bs i % 8) (end_at bs i - begin_at bs i) ≡ word_at bs i
word_touched bs i s =
    let xs = between (head_of bs + begin_at bs i / 8) (head_of bs + (end_at bs i + 7) / 8) bs in
    fill_by_all (λ t. bit_at (drop (head_of bs) bs) (begin_at bs i + t)) (bits_at xs (begin_at bs i % 8) (end_at bs i - begin_at bs i)) (end_at bs i - begin_at bs i) false
    (length_bits xs (begin_at bs i % 8) (end_at bs i - begin_at bs i))
    (λ k l.
    get_d_bits xs (begin_at bs i % 8) (end_at bs i - begin_at bs i) k l
    ∙ bit_same xs (drop (head_of bs) bs) (begin_at bs i % 8 + k) (begin_at bs i + k)
    (get_or-between bs (head_of bs + begin_at bs i / 8) (head_of bs + (end_at bs i + 7) / 8) ((begin_at bs i % 8 + k) / 8) 0 (omega (arith, s.some))
    ∙ ap (λ n. get_or bs n 0) (let z : head_of bs + begin_at bs i / 8 + (begin_at bs i % 8 + k) / 8 ≡ head_of bs + (begin_at bs i + k) / 8 = omega arith in z)
    ∙ sym (get_or-drop (head_of bs) bs ((begin_at bs i + k) / 8) 0))
    (omega arith))

-- bits
pub same_bit_refl : (x : Bool) → same_bit x x ≡ true
same_bit_refl true = refl
same_bit_refl false = refl

pub same_bit_not : (x y : Bool) → (x ≡ y → ⊥) → same_bit x y ≡ false
same_bit_not true true h = absurd (h refl)
same_bit_not true false h = refl
same_bit_not false true h = refl
same_bit_not false false h = absurd (h refl)

pub same_bit_is : (x y : Bool) → x ≡ y → same_bit x y ≡ true
same_bit_is x y e = ap (same_bit x) (sym e) ∙ same_bit_refl x

-- what a loop over two words finds
pub lead_is : (xs ys : Word) (n : ℕ) → n ≤ length xs → n ≤ length ys → ((k : ℕ) → k < n → get_or xs k false ≡ get_or ys k false) → (n < length xs → n < length ys → get_or xs n false ≡ get_or ys n false → ⊥) → lead xs ys ≡ n
unfolding lead
lead_is [] ys n a b same apart = omega arith
lead_is (x ∷ xs) [] n a b same apart = omega arith
lead_is (x ∷ xs) (y ∷ ys) zero a b same apart = cond-false _ _ _ (same_bit_not x y (apart (omega arith) (omega arith)))
lead_is (x ∷ xs) (y ∷ ys) (suc n) a b same apart =
    cond-true _ _ _ (same_bit_is x y (same 0 (omega arith)))
    ∙ ap suc (lead_is xs ys n (omega arith) (omega arith) (λ k l. same (suc k) (omega arith)) (λ u v e. apart (omega arith) (omega arith) e))

pub digit_small : (b : Bool) → digit b < 2
digit_small true = omega arith
digit_small false = omega arith

pub digit_one : (b : Bool) → eqb (digit b) 1 ≡ b
digit_one true = refl
digit_one false = refl

pub digit_bit : (n : ℕ) → n < 2 → digit (eqb n 1) ≡ n
digit_bit zero h = refl
digit_bit (suc zero) h = refl
digit_bit (suc (suc n)) h = absurd (omega arith)

-- the eight bits of a byte are small
abbrev Eight : Word → ℕ → Type 0
Eight ws q = (digit_at ws (8 * q + 0) < 2) × (digit_at ws (8 * q + 1) < 2) × (digit_at ws (8 * q + 2) < 2) × (digit_at ws (8 * q + 3) < 2) × (digit_at ws (8 * q + 4) < 2) × (digit_at ws (8 * q + 5) < 2) × (digit_at ws (8 * q + 6) < 2) × (digit_at ws (8 * q + 7) < 2)

pub eight : (ws : Word) (q : ℕ) → Eight ws q
eight ws q = (digit_small _, digit_small _, digit_small _, digit_small _, digit_small _, digit_small _, digit_small _, digit_small _)

byte_bit : (ws : Word) (q r : ℕ) → r < 8 → byte_at ws q / 2 ^ (7 - r) % 2 ≡ digit_at ws (8 * q + r)
byte_bit ws q zero l = let v = eight ws q in omega arith
byte_bit ws q (suc zero) l = let v = eight ws q in omega arith
byte_bit ws q (suc (suc zero)) l = let v = eight ws q in omega arith
byte_bit ws q (suc (suc (suc zero))) l = let v = eight ws q in omega arith
byte_bit ws q (suc (suc (suc (suc zero)))) l = let v = eight ws q in omega arith
byte_bit ws q (suc (suc (suc (suc (suc zero))))) l = let v = eight ws q in omega arith
byte_bit ws q (suc (suc (suc (suc (suc (suc zero)))))) l = let v = eight ws q in omega arith
byte_bit ws q (suc (suc (suc (suc (suc (suc (suc zero))))))) l = let v = eight ws q in omega arith
byte_bit ws q (suc (suc (suc (suc (suc (suc (suc (suc r)))))))) l = absurd (omega arith)

-- bit i of the packed body is bit i of the list
pub bit_pack : (ws : Word) (i : ℕ) → i < length ws → bit_at (pack ws) i ≡ get_or ws i false
bit_pack ws i l =
    let z : 8 * (i / 8) + i % 8 ≡ i = omega arith in
    ap (λ b. eqb (b / 2 ^ (7 - i % 8) % 2) 1) (get_or-map-range_with_len (byte_at ws) 0 ((length ws + 7) / 8) (i / 8) (i / 8) 0 (omega arith) (omega arith))
    ∙ ap (λ n. eqb n 1) (byte_bit ws (i / 8) (i % 8) (omega arith))
    ∙ digit_one (get_or ws (8 * (i / 8) + i % 8) false)
    ∙ ap (λ k. get_or ws k false) z
