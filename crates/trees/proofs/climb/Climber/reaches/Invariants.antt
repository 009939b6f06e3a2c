use Rattle.std.proofs.Common.{◌≡◌}
use Rattle.trees.specs.Above.{is_above}
use Rattle.trees.proofs.climb.Climber.reaches.Given as goal

abbrev pub invariant-loop-node : goal.invariant-loop-node
invariant-loop-node g l = is_above (g.H.Host.parents l.self.host.now) l.a l.node ≡ is_above (g.H.Host.parents l.self.host.now) l.a l.v

abbrev pub decreases-loop-node : goal.decreases-loop-node
decreases-loop-node g l = l.node
