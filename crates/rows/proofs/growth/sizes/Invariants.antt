use Rattle.std.proofs.Common.{◌≤◌}
use Rattle.rows.proofs.Handing.{HasFrom}
use Rattle.rows.proofs.growth.sizes.Given as goal

-- the nodes from v on have handed their sizes up
abbrev pub invariant-loop-v : goal.invariant-loop-v
invariant-loop-v l = record { low : 1 ≤ l.v; handed : HasFrom l.up.row.now l.size l.v }
