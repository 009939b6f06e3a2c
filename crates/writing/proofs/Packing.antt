-- Bits of bytes: one bit set, the bits of a word written, and bytes by their bits.
use Rattle.std.proofs.Common.{◌≡◌, ℕ, zero, suc, ◌+◌, ◌-◌, ◌*◌, ◌/◌, ◌%◌, ◌^◌, ◌<◌, ◌≤◌, Bool, true, false, cond, not, eqb, List, [], ◌∷◌, ◌++◌, length, get_or, take, drop, set, sym, refl, ap, ◌∙◌, subst, inl, inr, ⊎_elim, div-one, arith}
use Rattle.std.specs.Int.Bits.{bit_or}
use native.Mathlib.Nat.{pow-zero, pow-succ', div-div-eq-div-mul}
use Rattle.std.specs.List.{flat_map}
use Rattle.std.proofs.lemmas.List.FromFn.{fill_by_all}
use Rattle.std.proofs.lemmas.List.{length-append, set-append_left, set-append_right, get_or_append_left, get_or-append_right, length-take-le, take_more, get_or_past}
use Rattle.std.proofs.lemmas.Bool.{cases_eq, cases_lt, eqb-true, false≢true}
use Rattle.codes.specs.Words.{odd, digits}
use Rattle.formats.specs.Label.{Word}
use Rattle.formats.specs.Words.{digit, digit_at, byte_at, pack}
use Rattle.writing.specs.Writes.{Wrote, put}
use Rattle.writing.specs.Bits.{byte_bits, unpacked}
use Rattle.writing.proofs.Puts.{then, getD_past_write}

pub length_unpacked : (xs : List ℕ) → length (unpacked xs) ≡ 8 * length xs
unfolding unpacked
length_unpacked [] = refl
length_unpacked (x ∷ xs) = let ih = length_unpacked xs in omega arith

both : {P : Type 0} (a b : Bool) → cond a b false ≡ true → (a ≡ true → b ≡ true → P) → P
both true b t k = k refl t
both false b t k = absurd (false≢true t)

-- ---- a rule at each byte, by one test that is computed

abbrev holds_below : (ℕ → Bool) → ℕ → Bool
holds_below f zero = true
holds_below f (suc n) = cond (f n) (holds_below f n) false

each_below : (f : ℕ → Bool) (n : ℕ) → holds_below f n ≡ true → (k : ℕ) → k < n → f k ≡ true
each_below f zero t k lt = absurd (omega arith)
each_below f (suc n) t k lt =
    elim (cases_eq k n) [
      | inl e ↦ rw e (grind arith)
      | inr ne ↦ let rest : holds_below f n ≡ true = grind arith in each_below f n rest k (omega arith)
    ]

abbrev alike : Bool → Bool → Bool
alike true b = b
alike false b = not b

alike_is : (a b : Bool) → alike a b ≡ true → a ≡ b
alike_is true b t = sym t
alike_is false true t = absurd (false≢true t)
alike_is false false t = refl

abbrev same : List Bool → List Bool → Bool
same [] [] = true
same [] (y ∷ ys) = false
same (x ∷ xs) [] = false
same (x ∷ xs) (y ∷ ys) = cond (alike x y) (same xs ys) false

same_is : (xs ys : List Bool) → same xs ys ≡ true → xs ≡ ys
same_is [] [] t = refl
same_is [] (y ∷ ys) t = absurd (false≢true t)
same_is (x ∷ xs) [] t = absurd (false≢true t)
same_is (x ∷ xs) (y ∷ ys) t = both (alike x y) (same xs ys) t (λ p q. let e = alike_is x y p in let ih = same_is xs ys q in cc)

abbrev byte_test : ℕ → ℕ → Bool
byte_test t x = same (byte_bits (bit_or x (128 / 2 ^ t))) (set (byte_bits x) t true)

all_bytes : holds_below (λ t. holds_below (λ x. byte_test t x) 256) 8 ≡ true
all_bytes = refl

-- a bit of a byte set: t counts from the highest
in_byte : (t x : ℕ) → x < 256 → t < 8 → byte_bits (bit_or x (128 / 2 ^ t)) ≡ set (byte_bits x) t true
in_byte t x lt lt8 = same_is _ _ (each_below (λ x. byte_test t x) 256 (each_below (λ t. holds_below (λ x. byte_test t x) 256) 8 all_bytes t lt8) x lt)

-- ---- a bit of a row of bytes

set_in : (i t : ℕ) (xs : List ℕ) → get_or xs i 0 < 256 → i < length xs → t < 8
    → unpacked (set xs i (bit_or (get_or xs i 0) (128 / 2 ^ t))) ≡ set (unpacked xs) (8 * i + t) true
unfolding unpacked
set_in i t [] ok lt lt8 = absurd (omega arith)
set_in zero t (x ∷ xs) ok lt lt8 =
    let e : 8 * 0 + t ≡ t = omega arith in
    ap (λ bs. bs ++ flat_map byte_bits xs) (in_byte t x ok lt8) ∙ sym (set-append_left (byte_bits x) (flat_map byte_bits xs) t true lt8) ∙ ap (λ n. set (byte_bits x ++ flat_map byte_bits xs) n true) (sym e)
set_in (suc i) t (x ∷ xs) ok lt lt8 =
    let e : 8 * suc i + t - 8 ≡ 8 * i + t = omega arith in
    let le : 8 ≤ 8 * suc i + t = omega arith in
    let ih = set_in i t xs ok (omega arith) lt8 in
    ap (λ zs. byte_bits x ++ zs) (ih ∙ ap (λ n. set (flat_map byte_bits xs) n true) (sym e)) ∙ sym (set-append_right (byte_bits x) (flat_map byte_bits xs) 8 (8 * suc i + t) true refl le)

pub set_at_bit : (j : ℕ) (xs : List ℕ) → get_or xs (j / 8) 0 < 256 → j < 8 * length xs
    → unpacked (set xs (j / 8) (bit_or (get_or xs (j / 8) 0) (128 / 2 ^ (j % 8)))) ≡ set (unpacked xs) j true
set_at_bit j xs ok lt =
    let e : 8 * (j / 8) + j % 8 ≡ j = omega arith in
    set_in (j / 8) (j % 8) xs ok (omega arith) (omega arith) ∙ ap (λ n. set (unpacked xs) n true) e

-- ---- the bits of a word, one after the other

pub length_digits : (k x : ℕ) → length (digits k x) ≡ k
length_digits zero x = refl
length_digits (suc k) x = let a = length-append (digits k (x / 2)) (odd x ∷ []) in let b = length_digits k (x / 2) in omega arith

pub getD_digits : (k x i : ℕ) → i < k → get_or (digits k x) i false ≡ odd (x / 2 ^ (k - 1 - i))
getD_digits zero x i lt = absurd (omega arith)
getD_digits (suc k) x i lt =
    let n = length_digits k (x / 2) in
    let ih = getD_digits k (x / 2) i in
    ⊎_elim
    (λ l. let e : suc (k - 1 - i) ≡ suc k - 1 - i = omega arith in
    let l' : i < length (digits k (x / 2)) = omega arith in
    get_or_append_left (digits k (x / 2)) (odd x ∷ []) false i l' ∙ ih l
    ∙ ap odd (div-div-eq-div-mul x 2 (2 ^ (k - 1 - i)) ∙ ap (λ (d : ℕ). x / d) (sym (pow-succ' 2 (k - 1 - i))) ∙ ap (λ (m : ℕ). x / 2 ^ m) e))
    (λ l. let z : suc k - 1 - i ≡ 0 = omega arith in
    let w : i - k ≡ 0 = omega arith in
    let le : k ≤ i = omega arith in
    get_or-append_right (digits k (x / 2)) (odd x ∷ []) k i false n le ∙ ap (λ (m : ℕ). get_or (odd x ∷ []) m false) w
    ∙ ap odd (sym (div-one x) ∙ ap (λ (d : ℕ). x / d) (sym (pow-zero 2)) ∙ ap (λ (m : ℕ). x / 2 ^ m) (sym z)))
    (cases_lt i k)

pub bit_more : (at x k i : ℕ) (b : Bool) {xs ys zs : List Bool} → Wrote at (take i (digits k x)) xs ys → i < k → odd (x / 2 ^ (k - 1 - i)) ≡ b
    → Wrote (at + i) (b ∷ []) ys zs → Wrote at (take (i + 1) (digits k x)) xs zs
bit_more at x k i b {xs} {ys} {zs} w lt e v =
    let n = length_digits k x in
    let lt' : i < length (digits k x) = omega arith in
    let le : i ≤ length (digits k x) = omega arith in
    let t : take (i + 1) (digits k x) ≡ take i (digits k x) ++ b ∷ [] = take_more (digits k x) i false lt' ∙ ap (λ y. take i (digits k x) ++ y ∷ []) (getD_digits k x i lt ∙ e) in
    subst (λ (ws : List Bool). Wrote at ws xs zs) (sym t) (then w v (ap (λ m. at + m) (sym (length-take-le i (digits k x) le))))

-- the next bit is clear
pub next_clear : (at x k i : ℕ) {xs ys : List Bool} → Wrote at (take i (digits k x)) xs ys → i ≤ k → ((j : ℕ) → at ≤ j → get_or xs j false ≡ false) → get_or ys (at + i) false ≡ false
next_clear at x k i w le clear =
    let n = length_digits k x in
    let le' : i ≤ length (digits k x) = omega arith in
    getD_past_write w (at + i) false (omega (arith, length-take-le i (digits k x) le')) ∙ clear (at + i) (omega arith)

-- ---- bytes by their bits

all_values : holds_below (λ x. eqb x (byte_at (byte_bits x) 0)) 256 ≡ true
all_values = refl

byte_value : (x : ℕ) → x < 256 → x ≡ byte_at (byte_bits x) 0
byte_value x lt = eqb-true x (byte_at (byte_bits x) 0) (each_below (λ x. eqb x (byte_at (byte_bits x) 0)) 256 all_values x lt)

getD_unpacked : (i t : ℕ) (xs : List ℕ) → i < length xs → t < 8 → get_or (unpacked xs) (8 * i + t) false ≡ get_or (byte_bits (get_or xs i 0)) t false
unfolding unpacked
getD_unpacked i t [] lt lt8 = absurd (omega arith)
getD_unpacked zero t (x ∷ xs) lt lt8 =
    let e : 8 * 0 + t ≡ t = omega arith in
    ap (λ n. get_or (byte_bits x ++ flat_map byte_bits xs) n false) e ∙ get_or_append_left (byte_bits x) (flat_map byte_bits xs) false t lt8
getD_unpacked (suc i) t (x ∷ xs) lt lt8 =
    let e : 8 * suc i + t - 8 ≡ 8 * i + t = omega arith in
    let le : 8 ≤ 8 * suc i + t = omega arith in
    get_or-append_right (byte_bits x) (flat_map byte_bits xs) 8 (8 * suc i + t) false refl le ∙ ap (λ n. get_or (flat_map byte_bits xs) n false) e ∙ getD_unpacked i t xs (omega arith) lt8

all_clear : holds_below (λ t. not (get_or (byte_bits 0) t false)) 8 ≡ true
all_clear = refl

not-true : (b : Bool) → not b ≡ true → b ≡ false
not-true true t = sym t
not-true false t = refl

pub zero_bits : (xs : List ℕ) → ((i : ℕ) → i < length xs → get_or xs i 0 ≡ 0) → (j : ℕ) → get_or (unpacked xs) j false ≡ false
zero_bits xs z j =
    elim (cases_lt j (8 * length xs)) [
      | inl lt ↦
          let e : 8 * (j / 8) + j % 8 ≡ j = omega arith in
          let in_xs : j / 8 < length xs = omega arith in
          ap (λ n. get_or (unpacked xs) n false) (sym e)
          ∙ getD_unpacked (j / 8) (j % 8) xs in_xs (omega arith)
          ∙ ap (λ x. get_or (byte_bits x) (j % 8) false) (z (j / 8) in_xs)
          ∙ not-true (get_or (byte_bits 0) (j % 8) false) (each_below (λ t. not (get_or (byte_bits 0) t false)) 8 all_clear (j % 8) (omega arith))
      | inr ge ↦ get_or_past (unpacked xs) j false (omega (arith, length_unpacked xs))
    ]

-- bytes whose bits are those of a word, with 0 after it, are the word packed
pub packs : (xs : List ℕ) (bs : Word) → length xs ≡ (length bs + 7) / 8 → ((i : ℕ) → get_or xs i 0 < 256) → ((j : ℕ) → get_or (unpacked xs) j false ≡ get_or bs j false) → xs ≡ pack bs
packs xs bs e ok h =
    fill_by_all (byte_at bs) xs ((length bs + 7) / 8) 0 e
    (λ i lt.
    let b : (t : ℕ) → t < 8 → digit_at (byte_bits (get_or xs i 0)) t ≡ digit_at bs (8 * i + t) = λ t l. ap digit (sym (getD_unpacked i t xs (omega arith) l) ∙ h (8 * i + t)) in
    byte_value (get_or xs i 0) (ok i) ∙ eight (byte_bits (get_or xs i 0)) bs i b)
  where
    eight : (cs bs : Word) (i : ℕ) → ((t : ℕ) → t < 8 → digit_at cs t ≡ digit_at bs (8 * i + t)) → byte_at cs 0 ≡ byte_at bs i
    eight cs bs i b = omega (arith, b 0 (omega arith), b 1 (omega arith), b 2 (omega arith), b 3 (omega arith), b 4 (omega arith), b 5 (omega arith), b 6 (omega arith), b 7 (omega arith))

-- written over clear bits: the bits, and then zeros
pub over_clear : (ws xs ys : Word) → Wrote 0 ws xs ys → ((j : ℕ) → get_or xs j false ≡ false) → (j : ℕ) → get_or ys j false ≡ get_or ws j false
unfolding put
over_clear ws xs ys w z j =
    elim (cases_lt j (length ws)) [
      | inl lt ↦ ap (λ zs. get_or zs j false) w.is ∙ get_or_append_left ws (drop (0 + length ws) xs) false j lt
      | inr ge ↦ getD_past_write w j false (omega arith) ∙ z j ∙ sym (get_or_past ws j false ge)
    ]

-- bytes that come after others are bytes
pub after_fits : (xs ys : List ℕ) → ((i : ℕ) → get_or (xs ++ ys) i 0 < 256) → (i : ℕ) → get_or ys i 0 < 256
after_fits xs ys h i =
    let e : length xs + i - length xs ≡ i = omega arith in
    let le : length xs ≤ length xs + i = omega arith in
    let same : get_or (xs ++ ys) (length xs + i) 0 ≡ get_or ys i 0 = get_or-append_right xs ys (length xs) (length xs + i) 0 refl le ∙ ap (λ k. get_or ys k 0) e in
    omega (arith, h (length xs + i))
