-- Nothing here need be believed.
-- The sums of a list of weights.
use Rattle.std.specs.Prelude.{◌≡◌, ℕ, ◌+◌, ◌<◌, ◌≤◌, List, [], ◌∷◌, length, take, sum, slice_index}
use Rattle.std.proofs.Common.{ap, arith, take-take}
use Rattle.std.specs.List.{AllByRecursion}
use Rattle.std.proofs.lemmas.List.Sums.{sum_by-cons, sum_by_more, sum_by-take-le}
use Rattle.std.proofs.ByRecursion.{All-get_or}
use Rattle.codes.specs.Weighing.{Weights}

-- the weights before an item, and its own, are part of the whole
pub sum_upto : (ws : List ℕ) (i : ℕ) → i < length ws → sum (take i ws) + slice_index ws i ≤ sum ws
sum_upto ws i h = omega (arith, sum_by_more (λ (x : ℕ). x) ws i 0 h, sum_by-take-le (λ (x : ℕ). x) ws (i + 1))

-- the weights before an item, and its own, are before each later item
pub sum_between : (ws : List ℕ) (i j : ℕ) → i < j → j < length ws → sum (take i ws) + slice_index ws i ≤ sum (take j ws)
sum_between ws i j h l =
    let k : i < length ws = omega arith in
    let e : sum (take (i + 1) (take j ws)) ≡ sum (take (i + 1) ws) = ap sum (take-take (i + 1) j ws (omega arith)) in
    omega (arith, sum_by_more (λ (x : ℕ). x) ws i 0 k, sum_by-take-le (λ (x : ℕ). x) (take j ws) (i + 1), e)

pub weight_some : (ws : List ℕ) (i : ℕ) → Weights ws → i < length ws → 1 ≤ slice_index ws i
weight_some ws i h l = All-get_or (λ (w : ℕ). 1 ≤ w) ws i 0 l h.each

-- there are no more items than their weights come to
pub count_le_sum : (ws : List ℕ) → AllByRecursion (λ w. 1 ≤ w) ws → length ws ≤ sum ws
count_le_sum [] h = omega arith
count_le_sum (w ∷ ws) h = omega (arith, sum_by-cons (λ (x : ℕ). x) w ws, h.0, count_le_sum ws h.1)
