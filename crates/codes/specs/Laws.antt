-- Nothing here need be believed.
-- Both codes keep the law.
use Rattle.std.specs.Prelude.{◌≡◌, ℕ, zero, suc, ◌+◌, ◌*◌, ◌<◌, ◌≤◌, ◌⊎◌, List, length, take, sum, nat_le, slice_index}
use Rattle.std.proofs.Common.{sym, ap, ◌∙◌, subst, subst₂, inl, inr, arith, le-leb}
use Rattle.std.proofs.lemmas.Bool.{cases_lt, cond-true, cond-false, lt-leb}
use Rattle.codes.specs.Words.{bits, Fit, Before}
use Rattle.codes.specs.Coding.{Lawful}
use Rattle.codes.specs.Weighing.{most_weight, Weights}
use Rattle.codes.specs.Gilbert.{shift, gilbert_moore}
use Rattle.codes.specs.Halves.{path, word_of, split_word, bisection}
use Rattle.codes.specs.Forks.{forks_before}
use Rattle.codes.specs.Midpoints.{below, mid_fork, shift_reaches, shift_stays, short}
use Rattle.codes.specs.Splits.{path_fork, path_short, path_some, word_bits, word_len, word_small}
use Rattle.codes.specs.Sums.{sum_upto, sum_between, weight_some, count_le_sum}

-- ---- Gilbert and Moore

pub gilbert_ordered : (ws : List ℕ) (i j : ℕ) → Weights ws → i < j → j < length ws → Before (bits (gilbert_moore ws i)) (bits (gilbert_moore ws j))
gilbert_ordered ws i j h k l =
    let l' : i < length ws = omega arith in
    let u = weight_some ws i h l' in
    let v = weight_some ws j h l in
    let between = sum_between ws i j k l in
    let upto = sum_upto ws j l in
    forks_before (bits (gilbert_moore ws i)) (bits (gilbert_moore ws j))
    (mid_fork (sum ws) (2 * sum (take i ws) + slice_index ws i) (2 * sum (take j ws) + slice_index ws j) (slice_index ws i) (slice_index ws j)
    (shift (slice_index ws i) (sum ws)) (shift (slice_index ws j) (sum ws))
    (omega arith) (omega arith) (omega arith)
    (shift_reaches (slice_index ws i) (sum ws) u) (shift_reaches (slice_index ws j) (sum ws) v))

pub gilbert_short : (ws : List ℕ) (i : ℕ) → Weights ws → i < length ws → (gilbert_moore ws i).len ≤ 16
gilbert_short ws i h l =
    let u = weight_some ws i h l in
    let upto = sum_upto ws i l in
    let s : shift (slice_index ws i) (sum ws) ≤ 15 = short (slice_index ws i) (sum ws) (shift (slice_index ws i) (sum ws)) u h.bounded (shift_stays (slice_index ws i) (sum ws) (omega arith)) in
    omega arith

pub gilbert_fit : (ws : List ℕ) (i : ℕ) → Weights ws → i < length ws → Fit (gilbert_moore ws i)
gilbert_fit ws i h l =
    let u = weight_some ws i h l in
    let upto = sum_upto ws i l in
    record {
      some_bits = omega arith;
      most_bits = omega (arith, gilbert_short ws i h l);
      small = below (sum ws) (2 * sum (take i ws) + slice_index ws i) (shift (slice_index ws i) (sum ws)) (omega arith) (omega arith);
    }

-- ---- bisection

pub split_long : (n i : ℕ) → 1 < n → split_word n i ≡ word_of 0 0 (path n n i)
split_long n i h = cond-false (nat_le n 1) _ _ (lt-leb n 1 h)

pub split_bits : (n i : ℕ) → 1 < n → bits (split_word n i) ≡ path n n i
split_bits n i h = ap bits (split_long n i h) ∙ word_bits 0 0 (path n n i)

split_alone : (n i : ℕ) → n ≤ 1 → split_word n i ≡ record { value = 0; len = 1 }
split_alone n i h = cond-true (nat_le n 1) _ _ (le-leb n 1 h)

pub bisection_ordered : (ws : List ℕ) (i j : ℕ) → i < j → j < length ws → Before (bits (bisection ws i)) (bits (bisection ws j))
bisection_ordered ws i j k l =
    let n : ℕ = length ws in
    let two : 1 < length ws = omega arith in
    subst₂ Before (sym (split_bits n i two)) (sym (split_bits n j two))
    (forks_before (path n n i) (path n n j) (path_fork n n i j (omega arith) k l))

fit_long : (n i : ℕ) → 1 < n → n ≤ most_weight → Fit (word_of 0 0 (path n n i))
fit_long zero i h l = absurd (omega arith)
fit_long (suc m) i h l =
    let e = word_len 0 0 (path (suc m) (suc m) i) in
    let some = path_some m (suc m) i h in
    let few : length (path (suc m) (suc m) i) ≤ 15 = path_short (suc m) (suc m) i 15 (omega arith) in
    record {
      some_bits = omega arith;
      most_bits = omega arith;
      small = word_small 0 0 (path (suc m) (suc m) i) (omega arith);
    }

pub bisection_fit : (ws : List ℕ) (i : ℕ) → Weights ws → i < length ws → Fit (bisection ws i)
bisection_fit ws i h l = go (cases_lt 1 (length ws))
  where
    go : (1 < length ws) ⊎ (length ws ≤ 1) → Fit (bisection ws i)
    go (inl two) = subst Fit (sym (split_long (length ws) i two)) (fit_long (length ws) i two (omega (arith, count_le_sum ws h.each, h.bounded)))
    go (inr one) = subst Fit (sym (split_alone (length ws) i one)) (record { some_bits = omega arith; most_bits = omega arith; small = omega arith })

-- ---- the laws

pub gilbert_lawful : Lawful gilbert_moore
gilbert_lawful = record { fit = gilbert_fit; ordered = gilbert_ordered }

pub bisection_lawful : Lawful bisection
bisection_lawful = record { fit = bisection_fit; ordered = λ ws i j h. bisection_ordered ws i j }
