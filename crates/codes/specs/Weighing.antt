-- The lists of weights that codes take, and the sums of such a list.
use Rattle.std.specs.Prelude.{◌≡◌, ℕ, ◌+◌, ◌≤◌, Bool, true, false, cond, ◌&&◌, List, [], ◌∷◌, length, take, sum, nat_le, nat_lt, Option, Some, None}
use Rattle.codes.specs.declared.item.Sums.{Sums}
use Rattle.std.specs.List.{AllByRecursion}

-- the largest sum
abbrev pub most_weight : ℕ
most_weight = 32767

-- a list that codes take: at least one weight, each at least 1, with a sum of at most most_weight
pub record Weights (ws : List ℕ) : Type 0 where
  pub some_weight : 1 ≤ length ws
  pub each : AllByRecursion (λ w. 1 ≤ w) ws
  pub bounded : sum ws ≤ most_weight

abbrev pub positive : List ℕ → Bool
positive [] = true
positive (w ∷ ws) = nat_le 1 w && positive ws

-- the test of a list: each weight at least 1, with a sum of at most most_weight (an empty list passes, but has no index)
abbrev pub fine_list : List ℕ → Bool
fine_list ws = positive ws && nat_le (sum ws) most_weight

-- a sum with a list of weights added; none where a weight is 0, or the sum is then larger than most_weight
abbrev pub added_to : ℕ → List ℕ → Option ℕ
added_to s ws = cond (positive ws && nat_le (s + sum ws) most_weight) (Some (s + sum ws)) None

-- the test of a list and an index
abbrev pub accepts : List ℕ → ℕ → Bool
accepts ws i = fine_list ws && nat_lt i (length ws)

-- a test that comes out true where something holds, and nowhere else
pub record Exactly (test : Bool) (P : Type 0) : Type 0 where
  pub if_true : test ≡ true → P
  pub if_false : test ≡ false → P → ⊥

-- the sum of the weights before an index, and the sum of all; 0 where the list is not fine
abbrev pub sum_before : List ℕ → ℕ → ℕ
sum_before ws i = cond (fine_list ws) (sum (take i ws)) 0

abbrev pub sum_of_all : List ℕ → ℕ
sum_of_all ws = cond (fine_list ws) (sum ws) 0

-- both sums at an index; none where the list is not fine
abbrev pub sums_at : List ℕ → ℕ → Option Sums
sums_at ws i = cond (fine_list ws) (Some (record { before = sum (take i ws); total = sum ws })) None

-- the index after one; past the end it stays
abbrev pub next_index : List ℕ → ℕ → ℕ
next_index ws i = cond (nat_lt i (length ws)) (i + 1) i
