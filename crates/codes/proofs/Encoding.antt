-- One word more in three rows.
use Rattle.std.proofs.Common.{◌≡◌, ℕ, ◌+◌, ◌/◌, ◌%◌, List, set, sym, ap, ◌∙◌, ap₂, add-one}
use Rattle.codes.specs.declared.word.Word.{Word}
use Rattle.codes.specs.Words.{half_range}
use Rattle.codes.specs.Rows.{filled, Encoded}

filled_more : (g : ℕ → ℕ) (n : ℕ) (row : List ℕ) → set (filled g n row) n (g n) ≡ filled g (n + 1) row
filled_more g n row = ap (λ (m : ℕ). filled g m row) (sym (add-one n))

pub encoded_more : (f : ℕ → Word) (n : ℕ) (a b c a' b' c' x y z : List ℕ) (w : Word) → w ≡ f n → Encoded f n a b c a' b' c'
    → x ≡ set a' n (w.value / half_range) → y ≡ set b' n (w.value % half_range) → z ≡ set c' n w.len → Encoded f (n + 1) a b c x y z
encoded_more f n a b c a' b' c' x y z w e h p q r = record {
  highs = p ∙ ap₂ (λ (x : List ℕ) (v : Word). set x n (v.value / half_range)) h.highs e ∙ filled_more (λ i. (f i).value / half_range) n a;
  lows = q ∙ ap₂ (λ (x : List ℕ) (v : Word). set x n (v.value % half_range)) h.lows e ∙ filled_more (λ i. (f i).value % half_range) n b;
  lens = r ∙ ap₂ (λ (x : List ℕ) (v : Word). set x n v.len) h.lens e ∙ filled_more (λ i. (f i).len) n c;
}
