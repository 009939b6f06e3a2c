use Rattle.std.proofs.Common.{◌≡◌, ℕ, ◌<◌}
use Rattle.rows.specs.Chains.{at}
use Rattle.trees.specs.Above.{depth_of}
use Rattle.rows.specs.Rows.{parents_in}
use Rattle.rows.proofs.marks.depths.Given as goal

abbrev pub invariant-loop-v : goal.invariant-loop-v
invariant-loop-v l = (w : ℕ) → w < l.v → at l.depth w ≡ depth_of (parents_in l.up.row.now) w
