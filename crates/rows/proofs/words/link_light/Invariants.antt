use Rattle.std.proofs.Common.{◌≤◌}
use Rattle.rows.proofs.LinkRows.{LinkFrom}
use Rattle.rows.proofs.words.link_light.Given as goal

abbrev pub invariant-loop-v : goal.invariant-loop-v
invariant-loop-v l = (1 ≤ l.v) × LinkFrom l.grown.up.row.now l.first l.next l.v
