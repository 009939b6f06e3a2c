use Rattle.rows.proofs.Grown.{HeaviestTo}
use Rattle.rows.proofs.growth.heavies.Given as goal

-- each node has the heaviest of its children below v
abbrev pub invariant-loop-v : goal.invariant-loop-v
invariant-loop-v l = HeaviestTo l.up.row.now l.size l.heavy l.v-counter
