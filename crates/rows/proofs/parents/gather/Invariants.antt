use Rattle.std.proofs.Common.{◌≡◌, ℕ, ◌<◌, ◌≤◌, get_or, Some}
use Rattle.rows.proofs.parents.gather.Given as goal

abbrev pub invariant-loop-v : goal.invariant-loop-v
invariant-loop-v g l = (k : ℕ) → 1 ≤ k → k < l.v → g.H.Host.parents l.host k ≡ Some (get_or l.row k 0)
