-- Nothing here need be believed.
-- The words of the code by bisection.
use Rattle.std.specs.Prelude.{◌≡◌, ℕ, zero, suc, ◌+◌, ◌-◌, ◌*◌, ◌/◌, ◌^◌, ◌<◌, ◌≤◌, Bool, true, false, ◌⊎◌, List, [], ◌∷◌, ◌++◌, length, nat_le, nat_lt, refl}
use Rattle.std.proofs.Common.{sym, ap, ap₂, ◌∙◌, subst₂, inl, inr, append_assoc, append-nil, add-one, arith, pow-add, le-leb, lt-ltb, le-ltb, eq-eqb, ne_eqb}
use Rattle.std.proofs.lemmas.Bool.{cases_lt, cond-true, cond-false, lt-leb}
use Rattle.codes.specs.Words.{odd, digits, bits}
use Rattle.codes.specs.Halves.{half_up, path, bit, word_of}
use Rattle.codes.specs.Forks.{Forks, forks_here, forks_cons}

-- ---- the steps of a path

pub path_one : (f n i : ℕ) → n ≤ 1 → path f n i ≡ []
path_one zero n i h = refl
path_one (suc f) n i h = cond-true (nat_le n 1) _ _ (le-leb n 1 h)

pub path_left : (f n i : ℕ) → 1 < n → i < half_up n → path (suc f) n i ≡ false ∷ path f (half_up n) i
path_left f n i h l = cond-false (nat_le n 1) _ _ (lt-leb n 1 h) ∙ cond-true (nat_lt i (half_up n)) _ _ (lt-ltb i (half_up n) l)

pub path_right : (f n i : ℕ) → 1 < n → half_up n ≤ i → path (suc f) n i ≡ true ∷ path f (n - half_up n) (i - half_up n)
path_right f n i h l = cond-false (nat_le n 1) _ _ (lt-leb n 1 h) ∙ cond-false (nat_lt i (half_up n)) _ _ (le-ltb i (half_up n) l)

-- ---- the law

pub path_fork : (f n i j : ℕ) → n ≤ f → i < j → j < n → Forks (path f n i) (path f n j)
path_fork zero n i j e h l = absurd (omega arith)
path_fork (suc f) n i j e h l =
    go (cases_lt i (half_up n)) (cases_lt j (half_up n)) (path_fork f (half_up n) i j) (path_fork f (n - half_up n) (i - half_up n) (j - half_up n))
  where
    two : 1 < n
    two = omega arith

    go : (i < half_up n) ⊎ (half_up n ≤ i) → (j < half_up n) ⊎ (half_up n ≤ j)
        → (half_up n ≤ f → i < j → j < half_up n → Forks (path f (half_up n) i) (path f (half_up n) j))
        → (n - half_up n ≤ f → i - half_up n < j - half_up n → j - half_up n < n - half_up n → Forks (path f (n - half_up n) (i - half_up n)) (path f (n - half_up n) (j - half_up n)))
        → Forks (path (suc f) n i) (path (suc f) n j)
    go (inl a) (inl b) left right = subst₂ Forks (sym (path_left f n i two a)) (sym (path_left f n j two b)) (forks_cons false _ _ (left (omega arith) h b))
    go (inl a) (inr b) left right = subst₂ Forks (sym (path_left f n i two a)) (sym (path_right f n j two b)) (forks_here _ _)
    go (inr a) (inl b) left right = absurd (omega arith)
    go (inr a) (inr b) left right = subst₂ Forks (sym (path_right f n i two a)) (sym (path_right f n j two b)) (forks_cons true _ _ (right (omega arith) (omega arith) (omega arith)))

-- ---- lengths

pub path_short : (f n i k : ℕ) → n ≤ 2 ^ k → length (path f n i) ≤ k
path_short zero n i k h = omega arith
path_short (suc f) n i zero h = rw (path_one (suc f) n i h) (omega arith)
path_short (suc f) n i (suc k) h = go (cases_lt 1 n) (cases_lt i (half_up n)) (path_short f (half_up n) i k) (path_short f (n - half_up n) (i - half_up n) k)
  where
    go : (1 < n) ⊎ (n ≤ 1) → (i < half_up n) ⊎ (half_up n ≤ i)
        → (half_up n ≤ 2 ^ k → length (path f (half_up n) i) ≤ k)
        → (n - half_up n ≤ 2 ^ k → length (path f (n - half_up n) (i - half_up n)) ≤ k)
        → length (path (suc f) n i) ≤ suc k
    go (inl two) (inl a) left right = rw (path_left f n i two a) (omega (arith, left (omega arith)))
    go (inl two) (inr a) left right = rw (path_right f n i two a) (omega (arith, right (omega arith)))
    go (inr one) s left right = rw (path_one (suc f) n i one) (omega arith)

pub path_some : (f n i : ℕ) → 1 < n → 1 ≤ length (path (suc f) n i)
path_some f n i two = go (cases_lt i (half_up n))
  where
    go : (i < half_up n) ⊎ (half_up n ≤ i) → 1 ≤ length (path (suc f) n i)
    go (inl a) = rw (path_left f n i two a) (omega arith)
    go (inr a) = rw (path_right f n i two a) (omega arith)

-- ---- the word of a path

half_push : (v : ℕ) (b : Bool) → (2 * v + bit b) / 2 ≡ v
half_push v true = omega arith
half_push v false = omega arith

odd_push : (v : ℕ) (b : Bool) → odd (2 * v + bit b) ≡ b
odd_push v true = eq-eqb _ 1 (omega arith)
odd_push v false = ne_eqb _ 1 (λ e. omega arith)

pub digits_push : (l v : ℕ) (b : Bool) → digits (l + 1) (2 * v + bit b) ≡ digits l v ++ (b ∷ [])
digits_push l v b =
    ap (λ (n : ℕ). digits n (2 * v + bit b)) (add-one l)
    ∙ ap₂ (λ (m : ℕ) (c : Bool). digits l m ++ (c ∷ [])) (half_push v b) (odd_push v b)

-- the bits of the word are those of the list
pub word_bits : (v l : ℕ) (bs : List Bool) → bits (word_of v l bs) ≡ digits l v ++ bs
word_bits v l [] = sym (append-nil (digits l v))
word_bits v l (b ∷ bs) =
    word_bits (2 * v + bit b) (l + 1) bs
    ∙ ap (λ (u : List Bool). u ++ bs) (digits_push l v b)
    ∙ append_assoc (digits l v) (b ∷ []) bs

pub word_len : (v l : ℕ) (bs : List Bool) → (word_of v l bs).len ≡ l + length bs
word_len v l [] = omega arith
word_len v l (b ∷ bs) = omega (arith, word_len (2 * v + bit b) (l + 1) bs)

pub push_small : (v l : ℕ) (b : Bool) → v < 2 ^ l → 2 * v + bit b < 2 ^ (l + 1)
push_small v l true h = omega (arith, pow-add 2 l 1)
push_small v l false h = omega (arith, pow-add 2 l 1)

pub word_small : (v l : ℕ) (bs : List Bool) → v < 2 ^ l → (word_of v l bs).value < 2 ^ (word_of v l bs).len
word_small v l [] h = h
word_small v l (b ∷ bs) h = word_small (2 * v + bit b) (l + 1) bs (push_small v l b h)
