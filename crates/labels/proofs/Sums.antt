-- Sums of f 0, f 1, .. and tests counted in them.
use Rattle.std.proofs.Common.{◌≡◌, ℕ, zero, suc, ◌+◌, ◌<◌, ◌≤◌, Bool, true, false, cond, ◌||◌, sym, refl, ap, ◌∙◌, ⊎_elim, arith}
use Rattle.std.proofs.lemmas.Bool.{cases_order}
use Rattle.labels.specs.Sizes.{sum_to}

pub sum_ext : (k : ℕ) (f g : ℕ → ℕ) → ((i : ℕ) → i < k → f i ≡ g i) → sum_to k f ≡ sum_to k g
unfolding sum_to
sum_ext zero f g h = refl
sum_ext (suc k) f g h = let a = sum_ext k f g (λ i l. h i (omega arith)) in let b = h k (omega arith) in omega arith

pub sum_le : (k : ℕ) (f g : ℕ → ℕ) → ((i : ℕ) → i < k → f i ≤ g i) → sum_to k f ≤ sum_to k g
unfolding sum_to
sum_le zero f g h = omega arith
sum_le (suc k) f g h = let a = sum_le k f g (λ i l. h i (omega arith)) in let b = h k (omega arith) in omega arith

pub sum_zero : (k : ℕ) (f : ℕ → ℕ) → ((i : ℕ) → i < k → f i ≡ 0) → sum_to k f ≡ 0
unfolding sum_to
sum_zero zero f h = refl
sum_zero (suc k) f h = let a = sum_zero k f (λ i l. h i (omega arith)) in let b = h k (omega arith) in omega arith

pub sum_ones : (k : ℕ) (f : ℕ → ℕ) → ((i : ℕ) → i < k → f i ≡ 1) → sum_to k f ≡ k
unfolding sum_to
sum_ones zero f h = refl
sum_ones (suc k) f h = let a = sum_ones k f (λ i l. h i (omega arith)) in let b = h k (omega arith) in omega arith

pub sum_few : (k : ℕ) (f : ℕ → ℕ) → ((i : ℕ) → f i ≤ 1) → sum_to k f ≤ k
unfolding sum_to
sum_few zero f h = omega arith
sum_few (suc k) f h = let a = sum_few k f h in let b = h k in omega arith

pub sum_add : (k : ℕ) (f g : ℕ → ℕ) → sum_to k (λ i. f i + g i) ≡ sum_to k f + sum_to k g
unfolding sum_to
sum_add zero f g = refl
sum_add (suc k) f g = let a = sum_add k f g in omega arith

pub sum_swap : (k m : ℕ) (f : ℕ → ℕ → ℕ) → sum_to k (λ i. sum_to m (λ j. f i j)) ≡ sum_to m (λ j. sum_to k (λ i. f i j))
unfolding sum_to
sum_swap zero m f = sym (sum_zero m (λ j. sum_to 0 (λ i. f i j)) (λ j l. refl))
sum_swap (suc k) m f =
    ap (λ x. x + sum_to m (f k)) (sum_swap k m f) ∙ sym (sum_add m (λ j. sum_to k (λ i. f i j)) (f k))

pub sum_cond : (k : ℕ) (b : Bool) (f : ℕ → ℕ) → sum_to k (λ i. cond b (f i) 0) ≡ cond b (sum_to k f) 0
sum_cond k true f = refl
sum_cond k false f = sum_zero k (λ i. 0) (λ i l. refl)

-- one summand
pub sum_one : (k w : ℕ) (f : ℕ → ℕ) → w < k → f w ≤ sum_to k f
unfolding sum_to
sum_one zero w f h = absurd (omega arith)
sum_one (suc k) w f h = ⊎_elim (λ e. rw e (omega arith)) (⊎_elim (λ l. let a = sum_one k w f l in omega arith) (λ l. absurd (omega arith))) (cases_order w k)

-- all summands but one are zero
pub sum_single : (k w : ℕ) (f : ℕ → ℕ) → w < k → ((i : ℕ) → i < k → (i ≡ w → ⊥) → f i ≡ 0) → sum_to k f ≡ f w
unfolding sum_to
sum_single zero w f h g = absurd (omega arith)
sum_single (suc k) w f h g =
    ⊎_elim
    (λ e. let a = sum_zero k f (λ i l. g i (omega arith) (λ s. omega arith)) in rw e (omega arith))
    (⊎_elim
    (λ l. let a = sum_single k w f l (λ i l' s. g i (omega arith) s) in let b = g k (omega arith) (λ s. omega arith) in omega arith)
    (λ l. absurd (omega arith)))
    (cases_order w k)

-- tests as 0 or 1
pub bit_le : (b : Bool) → cond b 1 0 ≤ 1
bit_le true = omega arith
bit_le false = omega arith

pub cond_add : (b : Bool) (x y : ℕ) → cond b (x + y) 0 ≡ cond b x 0 + cond b y 0
cond_add true x y = refl
cond_add false x y = refl

pub bits_or : (x y : Bool) → (x ≡ true → y ≡ true → ⊥) → cond (x || y) 1 0 ≡ cond x 1 0 + cond y 1 0
bits_or true true h = absurd (h refl refl)
bits_or true false h = refl
bits_or false true h = refl
bits_or false false h = refl
