use Rattle.std.proofs.Common.{◌≡◌, ℕ, ◌+◌, ◌-◌, ◌/◌, ◌%◌, ◌^◌, ◌<◌, Bool, true, false, List, [], ◌∷◌, length, set, sym, ap, ◌∙◌, subst, arith}
use Rattle.std.proofs.lemmas.List.{take_all}
use Rattle.std.proofs.lemmas.Bool.{eq-eqb, ne_eqb}
use Rattle.codes.specs.Words.{bits}
use Rattle.writing.specs.Writes.{Wrote}
use Rattle.writing.specs.Bits.{unpacked}
use Rattle.writing.proofs.Puts.{wrote_set, wrote_same}
use Rattle.writing.proofs.Packing.{length_unpacked, length_digits, bit_more, next_clear}
use Rattle.writing.proofs.bits.put_word.Goals as goal
use Rattle.writing.proofs.bits.put_word.Goals.{then-word-i-eq1, else-word-i-eq1}

pub loop-i-preserved : goal.loop-i-preserved
loop-i-preserved c =
    let w = c.args.word in
    let lt : c.args.at + c.loop-i.i < length (unpacked c.loop-i.out) = omega (arith, length_unpacked c.loop-i.out, c.requires.room) in
    elim c.if-word-i-eq1.branch [
      | then-word-i-eq1 k ↦
          let e : set (unpacked c.loop-i.out) (c.args.at + c.loop-i.i) true ≡ unpacked c.if-word-i-eq1.out = sym (ap unpacked k.out-is ∙ k.set_bit.ensures) in
          bit_more c.args.at w.value w.len c.loop-i.i true c.loop-i.invariant (omega arith) (eq-eqb (w.value / 2 ^ (w.len - 1 - c.loop-i.i) % 2) 1 k.if-word-i-eq1.true)
          (subst (λ (zs : List Bool). Wrote (c.args.at + c.loop-i.i) (true ∷ []) (unpacked c.loop-i.out) zs) e (wrote_set (c.args.at + c.loop-i.i) true (unpacked c.loop-i.out) lt))
      | else-word-i-eq1 k ↦
          let clear = next_clear c.args.at w.value w.len c.loop-i.i c.loop-i.invariant (omega arith) c.requires.clear in
          bit_more c.args.at w.value w.len c.loop-i.i false c.loop-i.invariant (omega arith) (ne_eqb (w.value / 2 ^ (w.len - 1 - c.loop-i.i) % 2) 1 k.if-word-i-eq1.false)
          (subst (λ (zs : List ℕ). Wrote (c.args.at + c.loop-i.i) (false ∷ []) (unpacked c.loop-i.out) (unpacked zs)) (sym k.out-is) (wrote_same (c.args.at + c.loop-i.i) false false (unpacked c.loop-i.out) lt clear))
    ]

pub returns : goal.returns
returns c =
    let n = length_digits c.args.word.len c.args.word.value in
    subst (λ (ws : List Bool). Wrote c.args.at ws (unpacked c.args.out.now) (unpacked c.loop-i.out)) (take_all c.loop-i.i (bits c.args.word) (omega arith)) c.loop-i.invariant
