-- Rows that are written from the front: what they hold, place by place, for callers of encode.
use Rattle.std.proofs.Common.{◌≡◌, ℕ, zero, suc, ◌<◌, ◌≤◌, ◌≢◌, ◌⊎◌, List, length, get_or, sym, refl, ap, ◌∙◌, inl, inr, arith, length-set, get_or-set_other, get_or-set_same}
use Rattle.std.proofs.lemmas.Bool.{cases_lt}
use Rattle.codes.specs.Rows.{filled}

pub length_filled : (g : ℕ → ℕ) (n : ℕ) (row : List ℕ) → length (filled g n row) ≡ length row
length_filled g zero row = refl
length_filled g (suc n) row = length-set (filled g n row) n (g n) ∙ length_filled g n row

-- a place that was not reached is as it was
pub filled_past : (g : ℕ → ℕ) (n : ℕ) (row : List ℕ) (k : ℕ) → n ≤ k → get_or (filled g n row) k 0 ≡ get_or row k 0
filled_past g zero row k h = refl
filled_past g (suc n) row k h =
    let ne : k ≢ n = λ e. omega arith in
    get_or-set_other (filled g n row) n k (g n) 0 ne ∙ filled_past g n row k (omega arith)

-- a place that was reached has its number
pub filled_at : (g : ℕ → ℕ) (n : ℕ) (row : List ℕ) (k : ℕ) → k < n → n ≤ length row → get_or (filled g n row) k 0 ≡ g k
filled_at g zero row k h l = absurd (omega arith)
filled_at g (suc n) row k h l = go (cases_lt k n) (filled_at g n row k)
  where
    go : (k < n) ⊎ (n ≤ k) → (k < n → n ≤ length row → get_or (filled g n row) k 0 ≡ g k) → get_or (filled g (suc n) row) k 0 ≡ g k
    go (inl a) ih = let ne : k ≢ n = λ e. omega arith in get_or-set_other (filled g n row) n k (g n) 0 ne ∙ ih a (omega arith)
    go (inr a) ih =
        let e : k ≡ n = omega arith in
        let i : n < length (filled g n row) = omega (arith, length_filled g n row) in
        ap (λ (m : ℕ). get_or (filled g (suc n) row) m 0) e ∙ get_or-set_same (filled g n row) n (g n) 0 i ∙ ap g (sym e)
