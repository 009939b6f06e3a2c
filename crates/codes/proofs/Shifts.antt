-- The shift of the code of Gilbert and Moore, balance, and the power of two that is found for the shift.
use Rattle.std.proofs.Common.{◌≡◌, ℕ, zero, suc, ◌+◌, ◌*◌, ◌/◌, ◌^◌, ◌<◌, ◌≤◌, Bool, true, false, cond, leb, max, ◌⊎◌, [], ◌∷◌, get_or, sum, sym, refl, ap, ap₂, ◌∙◌, inl, inr, mul-le-mul_left, arith, pow_pos, pow_mono, pow-add, leb-false}
use native.Mathlib.Nat.{div_self}
use Rattle.std.specs.Int.{div_ceil, IsPowerOfTwo}
use Rattle.std.proofs.lemmas.Grind.{div_ceil_times}
use Rattle.std.proofs.lemmas.List.Sums.{sum_by-cons}
use Rattle.std.proofs.lemmas.Bool.{cases_lt, cases_order}
use Rattle.codes.specs.Coding.{Balanced}
use Rattle.codes.specs.Gilbert.{doublings, shift, cut_word, mid_word, gilbert_moore}
use Rattle.codes.specs.Sums.{sum_upto, weight_some}
use Rattle.codes.specs.Midpoints.{twice_pow, shift_reaches, shift_stays}

-- one shift only takes w to between W and 2 * W
unlike : (w W a b : ℕ) → W ≤ w * 2 ^ a → w * 2 ^ b < 2 * W → a < b → ⊥
unlike w W a b h l k = omega (arith, twice_pow w a, mul-le-mul_left w (pow_mono {i = suc a} {j = b} k))

pub shift_is : (w W a : ℕ) → 1 ≤ w → w < 2 * W → W ≤ w * 2 ^ a → w * 2 ^ a < 2 * W → a ≡ shift w W
shift_is w W a p q h l = go (cases_order a (shift w W))
  where
    go : (a ≡ shift w W) ⊎ ((a < shift w W) ⊎ (shift w W < a)) → a ≡ shift w W
    go (inl e) = e
    go (inr (inl k)) = absurd (unlike w W a (shift w W) h (shift_stays w W q) k)
    go (inr (inr k)) = absurd (unlike w W (shift w W) a (shift_reaches w W p) l k)

-- it is the smallest
doublings_least : (f w W k : ℕ) → k < doublings f w W → w * 2 ^ k < W
doublings_least zero w W k h = absurd (omega arith)
doublings_least (suc f) w W k h = go (leb W w) refl k h (doublings_least f (w * 2) W)
  where
    go : (t : Bool) → leb W w ≡ t → (n : ℕ) → n < cond t 0 (suc (doublings f (w * 2) W)) → ((m : ℕ) → m < doublings f (w * 2) W → w * 2 * 2 ^ m < W) → w * 2 ^ n < W
    go true e n l ih = absurd (omega arith)
    go false e zero l ih = omega (arith, leb-false W w e)
    go false e (suc m) l ih = rw (twice_pow w m) (ih m (omega arith))

pub shift_least : (w W c : ℕ) → W ≤ w * 2 ^ c → shift w W ≤ c
shift_least w W c l = elim (cases_lt c (shift w W)) [ inl k ↦ absurd (omega (arith, doublings_least W w W c k)) | inr k ↦ k ]

pub gilbert_balanced : Balanced gilbert_moore
gilbert_balanced ws i h l =
    let u = weight_some ws i h l in
    let upto = sum_upto ws i l in
    let w : ℕ = get_or ws i 0 in
    let e : 2 ^ (shift w (sum ws) + 1) ≡ 2 ^ shift w (sum ws) * 2 = pow-add 2 (shift w (sum ws)) 1 in
    rw e (omega (arith, shift_stays w (sum ws) (omega arith)))

-- ---- the word of a lone item

pub gilbert_alone : (w : ℕ) → 1 ≤ w → gilbert_moore (w ∷ []) 0 ≡ record { value = 1; len = 1 }
gilbert_alone w h =
    let e : sum (w ∷ []) ≡ w = omega (arith, sum_by-cons (λ (x : ℕ). x) w []) in
    let s : 0 ≡ shift w w = shift_is w w 0 h (omega arith) (omega arith) (omega arith) in
    let m : (2 * 0 + w) * 2 ^ 0 ≡ w = omega arith in
    ap (λ (W : ℕ). mid_word W 0 w) e
    ∙ ap (cut_word (2 * 0 + w) w) (sym s)
    ∙ ap (λ (v : ℕ). record { value = v; len = 1 }) (ap (λ (v : ℕ). v / w) m ∙ div_self h)

-- ---- the power of two that is the shift

-- 2 ^ k is the smallest power of two that takes the weight to the sum
power_reaches : (w W k : ℕ) → 1 ≤ w → div_ceil W w ≤ 2 ^ k → W ≤ w * 2 ^ k
power_reaches w W k h l = omega (arith, div_ceil_times W w h, mul-le-mul_left w l)

power_stays : (w W k : ℕ) → 1 ≤ w → w ≤ W → 2 ^ k / 2 < max 1 (div_ceil W w) → w * 2 ^ k < 2 * W
power_stays w W zero h m l = omega arith
power_stays w W (suc j) h m l =
    let e : 2 ^ suc j / 2 ≡ 2 ^ j = omega (arith, pow-add 2 j 1) in
    let k : suc (2 ^ j) ≤ div_ceil W w = omega (arith, pow_pos j) in
    omega (arith, div_ceil_times W w h, mul-le-mul_left w k, twice_pow w j)

pub power_shift : (w W k : ℕ) → 1 ≤ w → w ≤ W → div_ceil W w ≤ 2 ^ k → 2 ^ k / 2 < max 1 (div_ceil W w) → k ≡ shift w W
power_shift w W k h m a b = shift_is w W k h (omega arith) (power_reaches w W k h a) (power_stays w W k h m b)

-- a logarithm is the exponent
pub same_log : (j k : ℕ) → 2 ^ j ≤ 2 ^ k → 2 ^ k < 2 * 2 ^ j → j ≡ k
same_log j k h l = go (cases_order j k)
  where
    go : (j ≡ k) ⊎ ((j < k) ⊎ (k < j)) → j ≡ k
    go (inl e) = e
    go (inr (inl a)) = absurd (omega (arith, pow-add 2 j 1, pow_mono {i = suc j} {j = k} a))
    go (inr (inr a)) = absurd (omega (arith, pow-add 2 k 1, pow_mono {i = suc k} {j = j} a, pow_pos k))

-- the word that is made with a power p of two, whose logarithm is j
pub scaled_word : (S w W j p r : ℕ) → 1 ≤ w → S + w ≤ W → r ≡ div_ceil W w → IsPowerOfTwo p → r ≤ p → p / 2 < max 1 r → 2 ^ j ≤ p → p < 2 * 2 ^ j
    → record { value = (2 * S + w) * p / W; len = j + 1 } ≡ mid_word W S w
scaled_word S w W j p r h l e (k, q) a b c d =
    let s : k ≡ shift w W = power_shift w W k h (omega arith) (rw (← q, ← e) a) (rw (← q, ← e) b) in
    let t : j ≡ k = same_log j k (rw (← q) c) (rw (← q) d) in
    ap₂ (λ (x i : ℕ). record { value = (2 * S + w) * x / W; len = i + 1 }) q t ∙ ap (cut_word (2 * S + w) W) s
