-- What the number of shared bits tells of two words.
use Rattle.std.proofs.Common.{◌≡◌, ℕ, suc, ◌≤◌, Bool, true, false, cond, not, ◌&&◌, eqb, ltb, [], ◌∷◌, length, get_or, sym, refl, ap, ◌∙◌, arith}
use Rattle.std.proofs.lemmas.Bool.{lt-ltb, ne_eqb}
use Rattle.std.proofs.lemmas.Bool.Decides.{nat_tests}
use Rattle.formats.specs.Label.{Word}
use Rattle.formats.specs.Pairs.{same_bit, same_word, lead, zero_first, begins}

none : (n : ℕ) → false ≡ eqb 0 (suc n)
none n = sym (ne_eqb 0 (suc n) (λ e. omega arith))

both : (a b : ℕ) → eqb a b ≡ eqb (suc a) (suc b)
both a b = grind (arith, nat_tests)

pub begins_lead : (a b : Word) → begins a b ≡ eqb (lead a b) (length a)
unfolding begins lead
begins_lead [] b = refl
begins_lead (x ∷ a) [] = none (length a)
begins_lead (x ∷ a) (y ∷ b) = go (same_bit x y) (begins_lead a b)
  where
    go : (t : Bool) → begins a b ≡ eqb (lead a b) (length a) → cond t (begins a b) false ≡ eqb (cond t (suc (lead a b)) 0) (suc (length a))
    go true ih = ih ∙ both (lead a b) (length a)
    go false ih = none (length a)

pub lead_sym : (a b : Word) → lead a b ≡ lead b a
unfolding lead
lead_sym [] [] = refl
lead_sym [] (y ∷ b) = refl
lead_sym (x ∷ a) [] = refl
lead_sym (x ∷ a) (y ∷ b) = let s = bit_sym x y in let r = lead_sym a b in λ t. cond (s t) (suc (r t)) 0
  where
    bit_sym : (p q : Bool) → same_bit p q ≡ same_bit q p
    bit_sym true true = refl
    bit_sym true false = refl
    bit_sym false true = refl
    bit_sym false false = refl

pub same_lead : (a b : Word) → same_word a b ≡ (eqb (lead a b) (length a) && eqb (lead a b) (length b))
unfolding same_word lead
same_lead [] [] = refl
same_lead [] (y ∷ b) = none (length b)
same_lead (x ∷ a) [] = ap (λ t. t && true) (none (length a))
same_lead (x ∷ a) (y ∷ b) = go (same_bit x y) (same_lead a b)
  where
    go : (t : Bool) → same_word a b ≡ (eqb (lead a b) (length a) && eqb (lead a b) (length b)) → cond t (same_word a b) false ≡ (eqb (cond t (suc (lead a b)) 0) (suc (length a)) && eqb (cond t (suc (lead a b)) 0) (suc (length b)))
    go true ih = let p = both (lead a b) (length a) in let q = both (lead a b) (length b) in ih ∙ (λ t. p t && q t)
    go false ih = let p = none (length a) in let q = none (length b) in λ t. p t && q t

pub lead_le : (a b : Word) → (lead a b ≤ length a) × (lead a b ≤ length b)
unfolding lead
lead_le [] b = (omega arith, omega arith)
lead_le (x ∷ a) [] = (omega arith, omega arith)
lead_le (x ∷ a) (y ∷ b) = go (same_bit x y) (lead_le a b)
  where
    go : (t : Bool) → (lead a b ≤ length a) × (lead a b ≤ length b) → (cond t (suc (lead a b)) 0 ≤ suc (length a)) × (cond t (suc (lead a b)) 0 ≤ suc (length b))
    go true ih = (omega arith, omega arith)
    go false ih = (omega arith, omega arith)

-- the first has 0 at the first differing bit where the shared bits are the whole of neither
pub zero_lead : (a b : Word) → zero_first a b ≡ (ltb (lead a b) (length a) && (ltb (lead a b) (length b) && not (get_or a (lead a b) false)))
unfolding lead zero_first
zero_lead [] b = refl
zero_lead (x ∷ a) [] = sym (ap (λ t. t && (ltb 0 0 && not x)) (lt-ltb 0 (suc (length a)) (omega arith)))
zero_lead (x ∷ a) (y ∷ b) = go (same_bit x y) (zero_lead a b)
  where
    less : (m n : ℕ) → ltb m n ≡ ltb (suc m) (suc n)
    less m n = grind (arith, nat_tests)

    go : (t : Bool) → zero_first a b ≡ (ltb (lead a b) (length a) && (ltb (lead a b) (length b) && not (get_or a (lead a b) false))) → cond t (zero_first a b) (not x) ≡ (ltb (cond t (suc (lead a b)) 0) (suc (length a)) && (ltb (cond t (suc (lead a b)) 0) (suc (length b)) && not (get_or (x ∷ a) (cond t (suc (lead a b)) 0) false)))
    go true ih =
        let p = less (lead a b) (length a) in
        let q = less (lead a b) (length b) in
        ih ∙ (λ t. p t && (q t && not (get_or a (lead a b) false)))
    go false ih =
        let p = sym (lt-ltb 0 (suc (length a)) (omega arith)) in
        let q = sym (lt-ltb 0 (suc (length b)) (omega arith)) in
        λ t. p t && (q t && not x)
