use Rattle.std.proofs.Common.{◌≡◌, ℕ, ◌<◌, length}
use Rattle.rows.specs.Chains.{at}
use Rattle.labels.specs.Sizes.{light_size}
use Rattle.rows.specs.Rows.{parents_in}
use Rattle.rows.proofs.growth.lights.Given as goal

abbrev pub invariant-loop-v : goal.invariant-loop-v
invariant-loop-v l = (w : ℕ) → w < l.v → at l.light w ≡ light_size (parents_in l.grown.up.row.now) (length l.grown.up.row.now) w
