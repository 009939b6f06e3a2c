-- The words that fields show.
use Rattle.std.proofs.Common.{◌≡◌, ℕ, ◌+◌, ◌%◌, ◌<◌, Bool, true, false, cond, ltb, get_or, Some, None, sym, ap, ◌∙◌, arith}
use Rattle.std.specs.Bool.{then_some}
use Rattle.std.proofs.lemmas.Bool.Decides.{nat_tests}
use Rattle.formats.specs.Layout.{bit_at}
use Rattle.formats.proofs.Bits.{get_d_bits}
use Rattle.tags.specs.declared.field.FieldWord.{FieldWord}
use Rattle.tags.specs.Views.{bits_in, bit_in}

pub word_bit : (w : FieldWord) (t : ℕ) → t < w.len → get_or (bits_in w) t false ≡ bit_at w.bytes.now (w.first_bit % 8 + t)
word_bit w t l = get_d_bits w.bytes.now (w.first_bit % 8) w.len t l

-- a bit where the word has it
pub bit_there : (w : FieldWord) (t : ℕ) (b v : Bool) → b ≡ ltb t w.len → v ≡ bit_at w.bytes.now (w.first_bit % 8 + t) → then_some b v ≡ bit_in w t
bit_there w t false v e h = ap (λ x. cond x (Some (get_or (bits_in w) t false)) None) e
bit_there w t true v e h =
    let l : t < w.len = grind (arith, nat_tests) in
    ap Some (h ∙ sym (word_bit w t l)) ∙ ap (λ x. cond x (Some (get_or (bits_in w) t false)) None) e
