-- Nothing here need be believed.
-- Rows of bits that fork, and when the digits of two numbers do.
use Rattle.std.specs.Prelude.{◌≡◌, ℕ, zero, suc, ◌+◌, ◌/◌, ◌%◌, ◌^◌, ◌<◌, ◌≤◌, Bool, true, false, ◌⊎◌, List, [], ◌∷◌, ◌++◌, length, take, slice_index_or, refl}
use Rattle.std.proofs.Common.{sym, ap, ◌∙◌, subst, subst₂, inl, inr, append_assoc, append-nil, add-zero, add-suc, div-one, arith, eq-eqb, ne_eqb, length-append}
use Rattle.std.proofs.Math.Nat.{pow-zero, pow-succ', div-div-eq-div-mul}
use Rattle.std.proofs.Math.Seq.{take-append_seam, get_or-append_seam}
use Rattle.std.proofs.lemmas.Bool.{cases_lt}
use Rattle.codes.specs.Words.{odd, digits, Before}

-- Two rows of bits fork: they have a common front, after which the first has 0 and the second 1.
pub record Forks (u v : List Bool) : Type 0 where
  pub common : List Bool
  pub rest_first : List Bool
  pub rest_second : List Bool
  pub is_first : u ≡ common ++ (false ∷ rest_first)
  pub is_second : v ≡ common ++ (true ∷ rest_second)

pub forks_here : (u v : List Bool) → Forks (false ∷ u) (true ∷ v)
forks_here u v = record { common = []; rest_first = u; rest_second = v; is_first = refl; is_second = refl }

pub forks_cons : (b : Bool) (u v : List Bool) → Forks u v → Forks (b ∷ u) (b ∷ v)
forks_cons b u v h = record {
  common = b ∷ h.common;
  rest_first = h.rest_first;
  rest_second = h.rest_second;
  is_first = ap (λ (x : List Bool). b ∷ x) h.is_first;
  is_second = ap (λ (x : List Bool). b ∷ x) h.is_second;
}

-- what follows does not matter
pub forks_append : (u v r s : List Bool) → Forks u v → Forks (u ++ r) (v ++ s)
forks_append u v r s h = record {
  common = h.common;
  rest_first = h.rest_first ++ r;
  rest_second = h.rest_second ++ s;
  is_first = ap (λ (x : List Bool). x ++ r) h.is_first ∙ append_assoc h.common (false ∷ h.rest_first) r;
  is_second = ap (λ (x : List Bool). x ++ s) h.is_second ∙ append_assoc h.common (true ∷ h.rest_second) s;
}

pub odd_false : (x y : ℕ) → x / 2 ≡ y / 2 → x < y → odd x ≡ false
odd_false x y e h = ne_eqb (x % 2) 1 (λ f. omega arith)

pub odd_true : (x y : ℕ) → x / 2 ≡ y / 2 → x < y → odd y ≡ true
odd_true x y e h = eq-eqb (y % 2) 1 (omega arith)

-- the smaller of two numbers of n bits stands before the greater
pub digits_fork : (n x y : ℕ) → x < y → y < 2 ^ n → Forks (digits n x) (digits n y)
digits_fork zero x y h l = absurd (omega arith)
digits_fork (suc n) x y h l = go (cases_lt (x / 2) (y / 2)) (digits_fork n (x / 2) (y / 2))
  where
    go : (x / 2 < y / 2) ⊎ (y / 2 ≤ x / 2) → (x / 2 < y / 2 → y / 2 < 2 ^ n → Forks (digits n (x / 2)) (digits n (y / 2)))
        → Forks (digits (suc n) x) (digits (suc n) y)
    go (inl k) ih = forks_append (digits n (x / 2)) (digits n (y / 2)) (odd x ∷ []) (odd y ∷ []) (ih k (omega arith))
    go (inr k) ih =
        let e : x / 2 ≡ y / 2 = omega arith in
        record {
          common = digits n (x / 2);
          rest_first = [];
          rest_second = [];
          is_first = ap (λ (b : Bool). digits n (x / 2) ++ (b ∷ [])) (odd_false x y e h);
          is_second = ap (λ (m : ℕ). digits n m ++ (odd y ∷ [])) (sym e) ∙ ap (λ (b : Bool). digits n (x / 2) ++ (b ∷ [])) (odd_true x y e h);
        }

-- the first a of a + d digits are those of the number with d digits cut off
pub digits_split : (a d x : ℕ) → digits (a + d) x ≡ digits a (x / 2 ^ d) ++ digits d x
digits_split a zero x = rw (add-zero, pow-zero, div-one, append-nil)
digits_split a (suc d) x =
    ap (λ (n : ℕ). digits n x) (add-suc a d)
    ∙ ap (λ (u : List Bool). u ++ (odd x ∷ [])) (digits_split a d (x / 2))
    ∙ append_assoc (digits a (x / 2 / 2 ^ d)) (digits d (x / 2)) (odd x ∷ [])
    ∙ ap (λ (n : ℕ). digits a n ++ digits (suc d) x) (div-div-eq-div-mul x 2 (2 ^ d) ∙ ap (λ (n : ℕ). x / n) (sym (pow-succ' 2 d)))

-- a word of a + d bits and one of a + e bits, of which the first a bits differ
pub cut_fork : (a d e x y : ℕ) → x / 2 ^ d < y / 2 ^ e → y / 2 ^ e < 2 ^ a → Forks (digits (a + d) x) (digits (a + e) y)
cut_fork a d e x y h l =
    subst₂ Forks (sym (digits_split a d x)) (sym (digits_split a e y))
    (forks_append (digits a (x / 2 ^ d)) (digits a (y / 2 ^ e)) (digits d x) (digits e y) (digits_fork a (x / 2 ^ d) (y / 2 ^ e) h l))

inside : (p : List Bool) (b : Bool) (r : List Bool) → length p < length (p ++ (b ∷ r))
inside p b r = simp length-append (omega arith)

-- the place is where the common front ends
pub forks_before : (u v : List Bool) → Forks u v → Before u v
forks_before u v h =
    let p : List Bool = h.common in
    record {
      place = length p;
      inside_first = subst (λ (x : List Bool). length p < length x) (sym h.is_first) (inside p false h.rest_first);
      inside_second = subst (λ (x : List Bool). length p < length x) (sym h.is_second) (inside p true h.rest_second);
      agree = ap (take (length p)) h.is_first ∙ take-append_seam p (false ∷ h.rest_first) ∙ sym (ap (take (length p)) h.is_second ∙ take-append_seam p (true ∷ h.rest_second));
      zero_there = ap (λ (x : List Bool). slice_index_or x (length p) true) h.is_first ∙ get_or-append_seam p false h.rest_first true;
      one_there = ap (λ (x : List Bool). slice_index_or x (length p) false) h.is_second ∙ get_or-append_seam p true h.rest_second false;
    }
