-- Two words, compared bit by bit.
use Rattle.std.proofs.Common.{◌≡◌, ℕ, ◌%◌, ◌<◌, ◌≤◌, min, max, Bool, true, false, not, ◌&&◌, ◌||◌, eqb, ltb, leb, length, get_or, Some, None, Option, MatchOption, sym, ◌∙◌, arith}
use mathlib.Core.Bool.{beq}
use Rattle.std.specs.Cmp.{booleans_Decides}
use Rattle.std.specs.Option.{option_eq, unwrap_or}
use Rattle.std.proofs.lemmas.Bool.{not-false, not-true, false≢true}
use Rattle.std.proofs.lemmas.Bool.Decides.{nat_tests}
use Rattle.formats.specs.Pairs.{lead, same_word, zero_first, begins}
use Rattle.formats.proofs.Bits.{length_bits, lead_is}
use Rattle.formats.proofs.Words.{same_lead, begins_lead, zero_lead, lead_sym, lead_le}
use Rattle.tags.specs.declared.field.FieldWord.{FieldWord}
use Rattle.tags.specs.Views.{bits_in, bit_in}

pub length_word : (w : FieldWord) → length (bits_in w) ≡ w.len
length_word w = length_bits w.bytes.now (w.first_bit % 8) w.len

pub bit_some : (w : FieldWord) (t : ℕ) → t < w.len → bit_in w t ≡ Some (get_or (bits_in w) t false)
bit_some w t l = grind (arith, nat_tests)

longer : (n p q : ℕ) → n ≤ p → n ≤ q → leb (max p q) n ≡ (eqb n p && eqb n q)
longer n p q h g = grind (arith, nat_tests)

shorter : (n p q : ℕ) → n ≤ p → n ≤ q → leb (min p q) n ≡ (eqb n p || eqb n q)
shorter n p q h g = grind (arith, nat_tests)

module _ (x y : FieldWord) where
  -- a bit that one has and the other has not
  abbrev pub differ : ℕ → Bool
  differ k = not (option_eq beq (bit_in x k) (bit_in y k))

  differ_both : (k : ℕ) → k < x.len → k < y.len → differ k ≡ not (beq (get_or (bits_in x) k false) (get_or (bits_in y) k false))
  differ_both k l m = let p = bit_some x k l in let q = bit_some y k m in λ t. not (option_eq beq (p t) (q t))

  alike : (k : ℕ) → k < x.len → k < y.len → differ k ≡ false → get_or (bits_in x) k false ≡ get_or (bits_in y) k false
  alike k l m e = grind (arith, differ_both, booleans_Decides, not-false)

  apart : (k : ℕ) → k < x.len → k < y.len → differ k ≡ true → get_or (bits_in x) k false ≡ get_or (bits_in y) k false → ⊥
  apart k l m e same = false≢true (sym (not-true _ (sym (differ_both k l m) ∙ e)) ∙ (booleans_Decides _ _).1 same)

  -- the first that differs, of the bits that both have
  pub found : (r : Option ℕ) (n : ℕ) → n ≡ min x.len y.len → MatchOption r ((k : ℕ) → 0 ≤ k → k < n → differ k ≡ false) (λ i. (0 ≤ i) × (i < n) × (differ i ≡ true) × ((k : ℕ) → 0 ≤ k → k < i → differ k ≡ false)) → unwrap_or r n ≡ lead (bits_in x) (bits_in y)
  found None n e h =
      let p = length_word x in
      let q = length_word y in
      sym (lead_is (bits_in x) (bits_in y) n (omega arith) (omega arith) (λ k l. alike k (omega arith) (omega arith) (h k (omega arith) l)) (λ u v g. omega arith))
  found (Some i) n e h =
      let p = length_word x in
      let q = length_word y in
      let l = h.1 in
      sym (lead_is (bits_in x) (bits_in y) i (omega arith) (omega arith) (λ k m. alike k (omega arith) (omega arith) (h.3 k (omega arith) m)) (λ u v g. apart i (omega arith) (omega arith) h.2 g))

  module _ (n : ℕ) (h : n ≡ lead (bits_in x) (bits_in y)) where
    within : (n ≤ x.len) × (n ≤ y.len)
    within = let k = lead_le (bits_in x) (bits_in y) in (omega (arith, length_word x), omega (arith, length_word y))

    -- the words are one where the shared bits are the longer
    pub same_longer : leb (max x.len y.len) n ≡ same_word (bits_in x) (bits_in y)
    same_longer =
        let p = sym (length_word x) in
        let q = sym (length_word y) in
        longer n x.len y.len within.0 within.1 ∙ (λ t. eqb (h t) (p t) && eqb (h t) (q t)) ∙ sym (same_lead (bits_in x) (bits_in y))

    -- one begins the other where the shared bits are the shorter
    pub begins_shorter : leb (min x.len y.len) n ≡ (begins (bits_in x) (bits_in y) || begins (bits_in y) (bits_in x))
    begins_shorter =
        let p = sym (length_word x) in
        let q = sym (length_word y) in
        let k = h ∙ lead_sym (bits_in x) (bits_in y) in
        let u = begins_lead (bits_in x) (bits_in y) in
        let v = begins_lead (bits_in y) (bits_in x) in
        shorter n x.len y.len within.0 within.1 ∙ (λ t. eqb (h t) (p t) || eqb (k t) (q t)) ∙ sym (λ t. u t || v t)

    zero_by : zero_first (bits_in x) (bits_in y) ≡ (ltb n x.len && (ltb n y.len && not (get_or (bits_in x) n false)))
    zero_by =
        let k = sym h in
        let p = length_word x in
        let q = length_word y in
        zero_lead (bits_in x) (bits_in y) ∙ (λ t. ltb (k t) (p t) && (ltb (k t) (q t) && not (get_or (bits_in x) (k t) false)))

    -- the other word ends there
    pub zero_none : y.len ≤ n → false ≡ zero_first (bits_in x) (bits_in y)
    zero_none e = grind (arith, nat_tests, zero_by)

    -- the other word goes on
    pub zero_some : n < y.len → option_eq beq (bit_in x n) (Some false) ≡ zero_first (bits_in x) (bits_in y)
    zero_some l = grind (arith, nat_tests, zero_by, bit_some x n)
