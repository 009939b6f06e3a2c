use Rattle.std.proofs.Common.{arith}
use Rattle.sheets.proofs.Looked.{answered}
use Rattle.sheets.proofs.look.look_up.Goals as goal

pub returns : goal.returns
returns c = record {
  told =
      rw c.ok_or.ensures.value
      (answered c.args.sheet.now c.args.v (omega arith) (omega arith) (omega arith) c.offset-begin.result c.offset-end.result c.get.result c.offset-begin.ensures c.offset-end.ensures c.get.ensures.lookup);
}
