use Rattle.std.proofs.Common.{◌≡◌, length}
use Rattle.rows.proofs.BranchRows.{BranchTo}
use Rattle.rows.proofs.words.branch_words.Given as goal

abbrev pub invariant-loop-number : goal.invariant-loop-number
invariant-loop-number g l =
    record {
      room : length l.desk.list.now ≡ length l.tree.grown.up.row.now;
      stored : BranchTo (g.C.Code.words l.code) l.tree.grown.up.row.now l.number-index l.desk.words.high.now l.desk.words.low.now l.desk.words.len.now;
    }
