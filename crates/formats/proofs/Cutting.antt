-- A cut tag, part by part, and what it keeps of the tag.
use Rattle.std.proofs.Common.{◌≡◌, ℕ, ◌+◌, ◌-◌, ◌*◌, ◌/◌, ◌%◌, ◌^◌, ◌<◌, ◌≤◌, List, [], ◌∷◌, ◌++◌, length, get_or, sym, refl, ap, ◌∙◌, arith}
use Rattle.std.proofs.lemmas.Grind.{common_steps}
use Rattle.std.proofs.lemmas.Bool.Decides.{nat_tests}
use Rattle.std.specs.List.{between}
use Rattle.std.proofs.lemmas.List.Edits.{length-between, get_or-between}
use Rattle.std.proofs.lemmas.List.{get_or_append_left, get_or-append_right}
use Rattle.formats.specs.Layout.{count_of, end_at, spare_of}

-- a byte with its low n bits 0
abbrev pub cleared : ℕ → ℕ → ℕ
cleared b n = b - b % 2 ^ n

-- where the last byte of the cut body stands, in the tag that is cut
abbrev pub last_of : ℕ → ℕ → ℕ
last_of k l = 3 * k + 4 + ((l + 7) / 8 - 1)

-- the first m of the k fields, of which the last ends at bit l
abbrev pub cut_with : List ℕ → ℕ → ℕ → ℕ → List ℕ
cut_with bs k m l =
    ((((between 0 2 bs ++ (m ∷ [])) ++ between 3 (3 + 2 * m) bs) ++ between (3 + 2 * k) (3 + 2 * k + (m + 1)) bs)
    ++ between (3 * k + 4) (last_of k l) bs)
    ++ (cleared (get_or bs (last_of k l) 0) (spare_of l) ∷ [])

abbrev pub cut_bytes : List ℕ → ℕ → List ℕ
cut_bytes bs m = cut_with bs (count_of bs) m (end_at bs (m - 1))

abbrev pub cut_size : List ℕ → ℕ → ℕ
cut_size bs m = 3 * m + 4 + (end_at bs (m - 1) + 7) / 8

-- cs is made of the first m of the k fields of bs, of which the last ends at bit l
pub record Kept (bs cs : List ℕ) (k m l : ℕ) : Type 0 where
  pub front : (p : ℕ) → p < 2 → get_or cs p 0 ≡ get_or bs p 0
  pub count : get_or cs 2 0 ≡ m
  pub ends : (p : ℕ) → 3 ≤ p → p < 3 + 2 * m → get_or cs p 0 ≡ get_or bs p 0
  pub depths : (p r : ℕ) → 3 + 2 * m ≤ p → p < 3 * m + 4 → p + 2 * k ≡ r + 2 * m → get_or cs p 0 ≡ get_or bs r 0
  pub body : (p r : ℕ) → 3 * m + 4 ≤ p → p < 3 * m + 4 + ((l + 7) / 8 - 1) → p + 3 * k ≡ r + 3 * m → get_or cs p 0 ≡ get_or bs r 0
  pub last : (p r : ℕ) → p ≡ 3 * m + 4 + ((l + 7) / 8 - 1) → p + 3 * k ≡ r + 3 * m → get_or cs p 0 ≡ cleared (get_or bs r 0) (spare_of l)
  pub size : length cs ≡ 3 * m + 4 + (l + 7) / 8

-- two rows one after the other, the first of n bytes
low : (xs ys : List ℕ) (n p : ℕ) → length xs ≡ n → p < n → get_or (xs ++ ys) p 0 ≡ get_or xs p 0
low xs ys n p e h = get_or_append_left xs ys 0 p (omega arith)

high : (xs ys : List ℕ) (n p : ℕ) → length xs ≡ n → n ≤ p → get_or (xs ++ ys) p 0 ≡ get_or ys (p - n) 0
high xs ys n p e h = get_or-append_right xs ys n p 0 e h

sum : (xs ys : List ℕ) (n p q : ℕ) → length xs ≡ n → length ys ≡ p → n + p ≡ q → length (xs ++ ys) ≡ q
sum xs ys n p q e f g = grind (arith, nat_tests, common_steps)

at_between : (bs : List ℕ) (a e p r : ℕ) → a + p < e → r ≡ a + p → get_or (between a e bs) p 0 ≡ get_or bs r 0
at_between bs a e p r h q = get_or-between bs a e p 0 h ∙ ap (λ n. get_or bs n 0) (sym q)

module _ (bs : List ℕ) (k m l : ℕ) where
  abbrev x1 : List ℕ
  x1 = between 0 2 bs

  abbrev x2 : List ℕ
  x2 = x1 ++ (m ∷ [])

  abbrev x3 : List ℕ
  x3 = x2 ++ between 3 (3 + 2 * m) bs

  abbrev x4 : List ℕ
  x4 = x3 ++ between (3 + 2 * k) (3 + 2 * k + (m + 1)) bs

  abbrev x5 : List ℕ
  x5 = x4 ++ between (3 * k + 4) (last_of k l) bs

  abbrev x6 : List ℕ
  x6 = x5 ++ (cleared (get_or bs (last_of k l) 0) (spare_of l) ∷ [])

module _ (bs : List ℕ) (k m l : ℕ) (mk : m ≤ k) (some : 0 < l) (fits : 3 * k + 4 + (l + 7) / 8 ≤ length bs) where
  n1 : length (x1 bs k m l) ≡ 2
  n1 = length-between bs 0 2 (omega arith)

  n2 : length (x2 bs k m l) ≡ 3
  n2 = sum (x1 bs k m l) (m ∷ []) 2 1 3 n1 refl refl

  n3 : length (x3 bs k m l) ≡ 3 + 2 * m
  n3 = sum (x2 bs k m l) (between 3 (3 + 2 * m) bs) 3 (3 + 2 * m - 3) (3 + 2 * m) n2 (length-between bs 3 (3 + 2 * m) (omega arith)) (omega arith)

  n4 : length (x4 bs k m l) ≡ 3 * m + 4
  n4 = sum (x3 bs k m l) (between (3 + 2 * k) (3 + 2 * k + (m + 1)) bs) (3 + 2 * m) (3 + 2 * k + (m + 1) - (3 + 2 * k)) (3 * m + 4) n3 (length-between bs (3 + 2 * k) (3 + 2 * k + (m + 1)) (omega arith)) (omega arith)

  n5 : length (x5 bs k m l) ≡ 3 * m + 4 + ((l + 7) / 8 - 1)
  n5 = sum (x4 bs k m l) (between (3 * k + 4) (last_of k l) bs) (3 * m + 4) (last_of k l - (3 * k + 4)) (3 * m + 4 + ((l + 7) / 8 - 1)) n4 (length-between bs (3 * k + 4) (last_of k l) (omega arith)) (omega arith)

  n6 : length (x6 bs k m l) ≡ 3 * m + 4 + (l + 7) / 8
  n6 = sum (x5 bs k m l) (cleared (get_or bs (last_of k l) 0) (spare_of l) ∷ []) (3 * m + 4 + ((l + 7) / 8 - 1)) 1 (3 * m + 4 + (l + 7) / 8) n5 refl (omega arith)

  -- down to a part
  to5 : (p : ℕ) → p < 3 * m + 4 + ((l + 7) / 8 - 1) → get_or (x6 bs k m l) p 0 ≡ get_or (x5 bs k m l) p 0
  to5 p h = low (x5 bs k m l) (cleared (get_or bs (last_of k l) 0) (spare_of l) ∷ []) (3 * m + 4 + ((l + 7) / 8 - 1)) p n5 h

  to4 : (p : ℕ) → p < 3 * m + 4 → get_or (x6 bs k m l) p 0 ≡ get_or (x4 bs k m l) p 0
  to4 p h = to5 p (omega arith) ∙ low (x4 bs k m l) (between (3 * k + 4) (last_of k l) bs) (3 * m + 4) p n4 h

  to3 : (p : ℕ) → p < 3 + 2 * m → get_or (x6 bs k m l) p 0 ≡ get_or (x3 bs k m l) p 0
  to3 p h = to4 p (omega arith) ∙ low (x3 bs k m l) (between (3 + 2 * k) (3 + 2 * k + (m + 1)) bs) (3 + 2 * m) p n3 h

  to2 : (p : ℕ) → p < 3 → get_or (x6 bs k m l) p 0 ≡ get_or (x2 bs k m l) p 0
  to2 p h = to3 p (omega arith) ∙ low (x2 bs k m l) (between 3 (3 + 2 * m) bs) 3 p n2 h

  pub kept : Kept bs (cut_with bs k m l) k m l
  kept = record {
    front = λ p h. to2 p (omega arith) ∙ low (x1 bs k m l) (m ∷ []) 2 p n1 h ∙ at_between bs 0 2 p p (omega arith) (omega arith);
    count = to2 2 (omega arith) ∙ high (x1 bs k m l) (m ∷ []) 2 2 n1 (omega arith);
    ends = λ p h g. to3 p g ∙ high (x2 bs k m l) (between 3 (3 + 2 * m) bs) 3 p n2 h ∙ at_between bs 3 (3 + 2 * m) (p - 3) p (omega arith) (omega arith);
    depths = λ p r h g e. to4 p g ∙ high (x3 bs k m l) (between (3 + 2 * k) (3 + 2 * k + (m + 1)) bs) (3 + 2 * m) p n3 h ∙ at_between bs (3 + 2 * k) (3 + 2 * k + (m + 1)) (p - (3 + 2 * m)) r (omega arith) (omega arith);
    body = λ p r h g e. to5 p g ∙ high (x4 bs k m l) (between (3 * k + 4) (last_of k l) bs) (3 * m + 4) p n4 h ∙ at_between bs (3 * k + 4) (last_of k l) (p - (3 * m + 4)) r (omega arith) (omega arith);
    last = λ p r h e.
        high (x5 bs k m l) (cleared (get_or bs (last_of k l) 0) (spare_of l) ∷ []) (3 * m + 4 + ((l + 7) / 8 - 1)) p n5 (omega arith)
        ∙ ap (λ i. get_or (cleared (get_or bs (last_of k l) 0) (spare_of l) ∷ []) i 0) (let z : p - (3 * m + 4 + ((l + 7) / 8 - 1)) ≡ 0 = omega arith in z)
        ∙ ap (λ i. cleared (get_or bs i 0) (spare_of l)) (let z : last_of k l ≡ r = omega arith in z);
    size = n6;
  }
