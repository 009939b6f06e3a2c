-- The numbers below a bound that pass a test.
use Rattle.std.proofs.Common.{◌≡◌, ℕ, zero, suc, ◌<◌, Bool, true, cond, [], ◌∷◌, length, get_or, sum_by, refl, ◌∙◌, ⊎_elim, arith}
use Rattle.std.specs.List.{AllByRecursion}
use Rattle.std.proofs.ByRecursion.{All-push}
use Rattle.std.proofs.lemmas.List.{length_push, get_or_push, get_or_append_left}
use Rattle.std.proofs.lemmas.List.Sums.{sum_by_push}
use Rattle.std.proofs.lemmas.Bool.{cases_Bool, cases_order}
use Rattle.labels.specs.Sizes.{sum_to, those}

pub those_sum : (k : ℕ) (t : ℕ → Bool) (f : ℕ → ℕ) → sum_by f (those k t) ≡ sum_to k (λ c. cond (t c) (f c) 0)
unfolding those sum_to
those_sum zero t f = refl
those_sum (suc k) t f =
    let ih = those_sum k t f in
    ⊎_elim (λ e. let s = sum_by_push f (those k t) k in rw e (omega arith)) (λ e. rw e (omega arith)) (cases_Bool (t k))

pub those_all : (P : ℕ → Type 0) (k : ℕ) (t : ℕ → Bool) → ((c : ℕ) → t c ≡ true → P c) → AllByRecursion P (those k t)
unfolding those
those_all P zero t h = tt
those_all P (suc k) t h =
    let ih = those_all P k t h in
    ⊎_elim (λ e. rw e (All-push P (those k t) k ih (h k e))) (λ e. rw e ih) (cases_Bool (t k))

-- one that passes has its own place
pub those_less : (k j : ℕ) (t : ℕ → Bool) → t j ≡ true → j < k → length (those j t) < length (those k t)
unfolding those
those_less zero j t e h = absurd (omega arith)
those_less (suc k) j t e h =
    let ih = those_less k j t e in
    let s = length_push (those k t) k in
    ⊎_elim
    (λ same. rw (same, rw same at e) (omega arith))
    (⊎_elim
    (λ l. let a = ih l in ⊎_elim (λ f. rw f (omega arith)) (λ f. rw f (omega arith)) (cases_Bool (t k)))
    (λ l. absurd (omega arith)))
    (cases_order j k)

pub those_at : (k c d : ℕ) (t : ℕ → Bool) → t c ≡ true → c < k → get_or (those k t) (length (those c t)) d ≡ c
unfolding those
those_at zero c d t e h = absurd (omega arith)
those_at (suc k) c d t e h =
    let ih = those_at k c d t e in
    ⊎_elim (λ same. rw (same, rw same at e) (get_or_push (those k t) k d (length (those k t)) refl))
    (⊎_elim
    (λ l.
    ⊎_elim
    (λ f. rw f (get_or_append_left (those k t) (k ∷ []) d (length (those c t)) (those_less k c t e l) ∙ ih l))
    (λ f. rw f (ih l))
    (cases_Bool (t k)))
    (λ l. absurd (omega arith)))
    (cases_order c k)
