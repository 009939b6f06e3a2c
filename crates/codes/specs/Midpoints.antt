-- Nothing here need be believed.
-- The arithmetic of the code of Gilbert and Moore.
use Rattle.std.specs.Prelude.{◌≡◌, ℕ, zero, suc, ◌+◌, ◌-◌, ◌*◌, ◌/◌, ◌^◌, ◌<◌, ◌≤◌, Bool, true, false, cond, ◌⊎◌, nat_le, refl}
use Rattle.std.proofs.Common.{sym, ap, ◌∙◌, subst₂, inl, inr, add-mul, mul_assoc, mul-le-mul_right, div-mul-le_self, le-div_iff_mul-le, div-lt_iff_lt-mul, arith, pow_pos, pow-add, pow_mono, leb-true, leb-false}
use Rattle.std.proofs.Math.Nat.{pow-succ', div-div-eq-div-mul, mul-div-mul_right}
use Rattle.std.proofs.lemmas.Bool.{cases_lt}
use Rattle.codes.specs.Words.{digits}
use Rattle.codes.specs.Weighing.{most_weight}
use Rattle.codes.specs.Gilbert.{doublings, shift}
use Rattle.codes.specs.Forks.{Forks, cut_fork}

-- d bits cut off: the floor of a floor
pub cut : (m W c d : ℕ) → m * 2 ^ (c + d) / W / 2 ^ d ≡ m * 2 ^ c / W
cut m W c d =
    div-div-eq-div-mul (m * 2 ^ (c + d)) W (2 ^ d)
    ∙ ap (λ (x : ℕ). x / (W * 2 ^ d)) (ap (λ (x : ℕ). m * x) (pow-add 2 c d) ∙ sym (mul_assoc m (2 ^ c) (2 ^ d)))
    ∙ mul-div-mul_right (m * 2 ^ c) W (pow_pos d)

-- two midpoints that are w apart differ in c + 1 bits
pub apart : (W m n w c : ℕ) → 0 < W → m + w ≤ n → W ≤ w * 2 ^ c → m * 2 ^ c / W < n * 2 ^ c / W
apart W m n w c p h l =
    let a : (m + w) * 2 ^ c ≤ n * 2 ^ c = mul-le-mul_right (2 ^ c) h in
    let b : m * 2 ^ c / W * W ≤ m * 2 ^ c = div-mul-le_self (m * 2 ^ c) W in
    let e : (m + w) * 2 ^ c ≡ m * 2 ^ c + w * 2 ^ c = add-mul m w (2 ^ c) in
    let s : suc (m * 2 ^ c / W) * W ≤ n * 2 ^ c = omega arith in
    (le-div_iff_mul-le p).1 s

-- a midpoint has c + 1 bits
pub below : (W m c : ℕ) → 0 < W → m < 2 * W → m * 2 ^ c / W < 2 ^ (c + 1)
below W m c p h =
    let q : 0 < 2 ^ c = pow_pos c in
    let a : suc m * 2 ^ c ≤ 2 * W * 2 ^ c = mul-le-mul_right (2 ^ c) h in
    let e : 2 ^ (c + 1) ≡ 2 ^ c * 2 = pow-add 2 c 1 in
    let s : m * 2 ^ c < 2 ^ c * 2 * W = omega arith in
    rw e ((div-lt_iff_lt-mul p).1 s)

-- the law, where c is the smaller of the two shifts
pub middle_fork : (W m n w c d e : ℕ) → 0 < W → n < 2 * W → m + w ≤ n → W ≤ w * 2 ^ c
    → Forks (digits (c + 1 + d) (m * 2 ^ (c + d) / W)) (digits (c + 1 + e) (n * 2 ^ (c + e) / W))
middle_fork W m n w c d e p small h l =
    cut_fork (c + 1) d e (m * 2 ^ (c + d) / W) (n * 2 ^ (c + e) / W)
    (rw (cut m W c d, cut n W c e) (apart W m n w c p h l))
    (rw (cut n W c e) (below W n c p small))

-- the same with the two shifts by name
pub mid_fork : (W m n w v a b : ℕ) → 0 < W → n < 2 * W → m + w + v ≤ n → W ≤ w * 2 ^ a → W ≤ v * 2 ^ b
    → Forks (digits (a + 1) (m * 2 ^ a / W)) (digits (b + 1) (n * 2 ^ b / W))
mid_fork W m n w v a b p small h la lb = go (cases_lt a b)
  where
    B : ℕ → ℕ → ℕ → ℕ → Type 0
    B s t x y = Forks (digits s (m * 2 ^ t / W)) (digits x (n * 2 ^ y / W))

    at : (s t x y s' t' x' y' : ℕ) → s ≡ s' → t ≡ t' → x ≡ x' → y ≡ y' → B s t x y → B s' t' x' y'
    at s t x y s' t' x' y' es et ex ey z = subst₂ (λ (k l : ℕ). B s' t' k l) ex ey (subst₂ (λ (k l : ℕ). B k l x y) es et z)

    go : (a < b) ⊎ (b ≤ a) → B (a + 1) a (b + 1) b
    go (inl k) =
        at (a + 1 + 0) (a + 0) (a + 1 + (b - a)) (a + (b - a)) (a + 1) a (b + 1) b (omega arith) (omega arith) (omega arith) (omega arith)
        (middle_fork W m n w a 0 (b - a) p small (omega arith) la)
    go (inr k) =
        at (b + 1 + (a - b)) (b + (a - b)) (b + 1 + 0) (b + 0) (a + 1) a (b + 1) b (omega arith) (omega arith) (omega arith) (omega arith)
        (middle_fork W m n v b (a - b) 0 p small (omega arith) lb)

-- ---- the shift

pub twice_pow : (w k : ℕ) → w * 2 ^ suc k ≡ w * 2 * 2 ^ k
twice_pow w k = ap (λ (x : ℕ). w * x) (pow-succ' 2 k) ∙ sym (mul_assoc w 2 (2 ^ k))

-- enough doublings
pub doublings_reach : (f w W : ℕ) → W ≤ w * 2 ^ f → W ≤ w * 2 ^ doublings f w W
doublings_reach zero w W h = h
doublings_reach (suc f) w W h = go (nat_le W w) refl (doublings_reach f (w * 2) W)
  where
    go : (t : Bool) → nat_le W w ≡ t → (W ≤ w * 2 * 2 ^ f → W ≤ w * 2 * 2 ^ doublings f (w * 2) W) → W ≤ w * 2 ^ cond t 0 (suc (doublings f (w * 2) W))
    go true e ih = omega (arith, leb-true W w e)
    go false e ih = rw (twice_pow w (doublings f (w * 2) W)) (ih (rw (twice_pow w f) at h))

-- no more than needed
pub doublings_stay : (f w W : ℕ) → w < 2 * W → w * 2 ^ doublings f w W < 2 * W
doublings_stay zero w W h = omega arith
doublings_stay (suc f) w W h = go (nat_le W w) refl (doublings_stay f (w * 2) W)
  where
    go : (t : Bool) → nat_le W w ≡ t → (w * 2 < 2 * W → w * 2 * 2 ^ doublings f (w * 2) W < 2 * W) → w * 2 ^ cond t 0 (suc (doublings f (w * 2) W)) < 2 * W
    go true e ih = omega arith
    go false e ih = rw (twice_pow w (doublings f (w * 2) W)) (ih (omega (arith, leb-false W w e)))

lt_pow : (n : ℕ) → n < 2 ^ n
lt_pow zero = omega arith
lt_pow (suc n) = omega (arith, lt_pow n)

pub shift_reaches : (w W : ℕ) → 1 ≤ w → W ≤ w * 2 ^ shift w W
shift_reaches w W h = doublings_reach W w W (omega (arith, lt_pow W, mul-le-mul_right (2 ^ W) h))

pub shift_stays : (w W : ℕ) → w < 2 * W → w * 2 ^ shift w W < 2 * W
shift_stays w W h = doublings_stay W w W h

-- a sum below 2 ^ 15 has shifts of at most 15
pub short : (w W a : ℕ) → 1 ≤ w → W ≤ most_weight → w * 2 ^ a < 2 * W → a ≤ 15
short w W a p q h = go (cases_lt 15 a)
  where
    go : (15 < a) ⊎ (a ≤ 15) → a ≤ 15
    go (inl k) = absurd (omega (arith, pow_mono {i = 16} {j = a} k, mul-le-mul_right (2 ^ a) p))
    go (inr k) = k
