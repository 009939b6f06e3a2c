-- The bound of a number.
use Rattle.std.proofs.Common.{◌≡◌, ℕ, ◌≤◌, List, [], ◌∷◌, Some, None, Option, refl, arith}
use Rattle.std.proofs.lemmas.Grind.{common_steps}
use Rattle.texts.specs.Numbers.{one_more, and_then, goes_on, number_of}

-- a number is at most its limit
small_more : (most v b w : ℕ) → one_more most v b ≡ Some w → w ≤ most
small_more most v b w e = grind (arith, common_steps)

follows :
    (most w : ℕ) (o : Option ℕ) (f : ℕ → Option ℕ) → ((x : ℕ) → o ≡ Some x → f x ≡ Some w → w ≤ most)
    → and_then o f ≡ Some w → w ≤ most
follows most w (Some x) f h e = h x refl e
follows most w None f h e = absurd (cc)

small_on : (most v : ℕ) (bs : List ℕ) (w : ℕ) → v ≤ most → goes_on most v bs ≡ Some w → w ≤ most
small_on most v [] w h e = grind (arith, common_steps)
small_on most v (b ∷ bs) w h e =
    follows most w (one_more most v b) (λ x. goes_on most x bs) (λ x t. small_on most x bs w (small_more most v b x t)) e

pub small : (most : ℕ) (bs : List ℕ) (w : ℕ) → number_of most bs ≡ Some w → w ≤ most
small most [] w e = absurd (cc)
small most (b ∷ bs) w e = small_on most 0 (b ∷ bs) w (omega arith) e
