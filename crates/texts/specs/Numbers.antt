-- A number as it is written: decimal digits, and nothing above a limit.
use Rattle.std.specs.Prelude.{ℕ, ◌+◌, ◌-◌, ◌*◌, Bool, false, cond, List, [], ◌∷◌, Some, None, Option, nat_le}

-- the byte is one of '0' to '9'
abbrev pub is_digit : ℕ → Bool
is_digit b = cond (nat_le 48 b) (nat_le b 57) false

-- the value v and one digit more, where it is a digit and the value does not pass the limit
abbrev pub one_more : ℕ → ℕ → ℕ → Option ℕ
one_more most v b = cond (is_digit b) (cond (nat_le (v * 10 + (b - 48)) most) (Some (v * 10 + (b - 48))) None) None

abbrev pub and_then : Option ℕ → (ℕ → Option ℕ) → Option ℕ
and_then (Some v) f = f v
and_then None f = None

-- the value v, and then the digits of the list
abbrev pub goes_on : ℕ → ℕ → List ℕ → Option ℕ
goes_on most v [] = Some v
goes_on most v (b ∷ bs) = and_then (one_more most v b) (λ w. goes_on most w bs)

abbrev pub number_of : ℕ → List ℕ → Option ℕ
number_of most [] = None
number_of most (b ∷ bs) = goes_on most 0 (b ∷ bs)
