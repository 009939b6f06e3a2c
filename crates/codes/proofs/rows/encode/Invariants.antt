use Rattle.std.proofs.Common.{◌≡◌, ◌-◌, ◌≤◌, length}
use Rattle.codes.specs.Rows.{Encoded, SameRows}
use Rattle.codes.proofs.rows.encode.Given as goal

-- the words of the items before this one are written
abbrev pub invariant-loop-word : goal.invariant-loop-word
invariant-loop-word g l = record {
  list : l.item.weights.now ≡ l.weights;
  within : l.item.index ≤ length l.weights;
  written : Encoded (g.C.Code.words l.code l.weights) l.item.index l.initial.rows.high.now l.initial.rows.low.now l.initial.rows.len.now l.rows.high.now l.rows.low.now l.rows.len.now;
  same : SameRows l.initial.rows l.rows;
}

abbrev pub decreases-loop-word : goal.decreases-loop-word
decreases-loop-word g l = length l.weights - l.item.index
