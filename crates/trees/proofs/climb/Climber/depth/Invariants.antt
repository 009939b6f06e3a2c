use Rattle.std.proofs.Common.{◌≡◌, ◌+◌}
use Rattle.trees.specs.Above.{depth_of}
use Rattle.trees.proofs.climb.Climber.depth.Given as goal

abbrev pub invariant-loop-parent : goal.invariant-loop-parent
invariant-loop-parent g l = l.steps + depth_of (g.H.Host.parents l.self.host.now) l.at ≡ depth_of (g.H.Host.parents l.self.host.now) l.v

abbrev pub decreases-loop-parent : goal.decreases-loop-parent
decreases-loop-parent g l = l.at
