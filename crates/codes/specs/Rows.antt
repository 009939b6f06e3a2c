-- The words of a whole list in three rows of numbers of 16 bits.
use Rattle.std.specs.Prelude.{◌≡◌, ℕ, zero, suc, ◌/◌, ◌%◌, cond, ◌&&◌, List, length, Ok, Err, Result, nat_le, slice_set}
use Rattle.codes.specs.declared.word.Word.{Word}
use Rattle.codes.specs.declared.rows.WordRows.{WordRows}
use Rattle.codes.specs.declared.rows.EncodeRefusal.{EncodeRefusal}
use Rattle.codes.specs.declared.rows.EncodeRefusal.TheVariants.{NotAccepted, RowTooShort}
use Rattle.codes.specs.Words.{half_range}
use Rattle.codes.specs.Weighing.{accepts}

-- a row whose first n places were written with g 0, g 1, and so on; the others stay
abbrev pub filled : (ℕ → ℕ) → ℕ → List ℕ → List ℕ
filled g zero row = row
filled g (suc n) row = slice_set (filled g n row) n (g n)

-- the first n words f 0, f 1, and so on were written into three rows: the high and the low half of the value, and the length
pub record Encoded (f : ℕ → Word) (n : ℕ) (high low len high' low' len' : List ℕ) : Type 0 where
  pub highs : high' ≡ filled (λ i. (f i).value / half_range) n high
  pub lows : low' ≡ filled (λ i. (f i).value % half_range) n low
  pub lens : len' ≡ filled (λ i. (f i).len) n len

-- the answer to a list and three rows of a, b and c places: the list has to be accepted, and each row to be as long at least
abbrev pub encode_answer : List ℕ → ℕ → ℕ → ℕ → Result (Unit {0}) EncodeRefusal
encode_answer ws a b c =
    cond (accepts ws 0)
    (cond (nat_le (length ws) a && (nat_le (length ws) b && nat_le (length ws) c)) (Ok tt) (Err RowTooShort))
    (Err NotAccepted)

-- the same three rows, whatever they hold
abbrev pub SameRows : WordRows → WordRows → Type 0
SameRows a b = (b.high.ghost_name ≡ a.high.ghost_name) × (b.low.ghost_name ≡ a.low.ghost_name) × (b.len.ghost_name ≡ a.len.ghost_name)
