use Rattle.std.proofs.Common.{◌≡◌, length}
use Rattle.rows.proofs.PathRows.{PathTo}
use Rattle.rows.proofs.words.path_words.Given as goal

abbrev pub invariant-loop-t : goal.invariant-loop-t
invariant-loop-t g l =
    record {
      room : length l.desk.list.now ≡ length l.tree.grown.up.row.now;
      stored : PathTo (g.C.Code.words l.code) l.tree.grown.up.row.now l.t l.desk.words.high.now l.desk.words.low.now l.desk.words.len.now;
    }
