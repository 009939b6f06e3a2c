use Rattle.std.proofs.Common.{◌≡◌, ◌+◌, ◌<◌}
use Rattle.trees.specs.Deepest.{meet_of}
use Rattle.trees.proofs.climb.Climber.meet_two.Given as goal

abbrev pub invariant-loop-left : goal.invariant-loop-left
invariant-loop-left g l =
    (l.left < l.self.count) × (l.right < l.self.count)
    × (meet_of (g.H.Host.parents l.self.host.now) l.left l.right ≡ meet_of (g.H.Host.parents l.self.host.now) l.a l.b)

abbrev pub decreases-loop-left : goal.decreases-loop-left
decreases-loop-left g l = l.left + l.right
