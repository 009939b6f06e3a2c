use Rattle.std.proofs.Common.{take}
use Rattle.codes.specs.Words.{bits}
use Rattle.writing.specs.Writes.{Wrote}
use Rattle.writing.specs.Bits.{unpacked}
use Rattle.writing.proofs.bits.put_word.Given as goal

-- the first i bits are written
abbrev pub invariant-loop-i : goal.invariant-loop-i
invariant-loop-i l = Wrote l.at (take l.i (bits l.word)) (unpacked l.initial.out) (unpacked l.out)
