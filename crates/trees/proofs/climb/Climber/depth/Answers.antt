use Rattle.std.proofs.Common.{sym, ◌∙◌, arith}
use Rattle.trees.proofs.Upward.{child, depth_none, depth_some, depth_small}
use Rattle.trees.proofs.climb.Climber.depth.Goals as goal

pub overflow_add-steps : goal.overflow_add-steps
overflow_add-steps g c =
    let t = g.H.Host.laws c.args.self.now.host.now c.args.self.now.count c.args.self.now.tree in
    let s = depth_small t c.args.v in
    let d = depth_some t c.loop-parent.at c.in-Some.parent (sym c.in-Some.ensures) in
    let i = c.loop-parent.invariant in
    record { fits = omega (arith, c.ranges.v) }

pub loop-parent-preserved : goal.loop-parent-preserved
loop-parent-preserved g c =
    let t = g.H.Host.laws c.args.self.now.host.now c.args.self.now.count c.args.self.now.tree in
    let d = depth_some t c.loop-parent.at c.in-Some.parent (sym c.in-Some.ensures) in
    let i = c.loop-parent.invariant in
    omega arith

pub loop-parent-smaller : goal.loop-parent-smaller
loop-parent-smaller g c =
    let t = g.H.Host.laws c.args.self.now.host.now c.args.self.now.count c.args.self.now.tree in
    (child t c.loop-parent.at c.in-Some.parent (sym c.in-Some.ensures)).0

pub returns : goal.returns
returns g c =
    let t = g.H.Host.laws c.args.self.now.host.now c.args.self.now.count c.args.self.now.tree in
    let d = depth_none t c.loop-parent.at (sym c.parent.ensures ∙ c.in_default.is) in
    let i = c.loop-parent.invariant in
    omega arith
