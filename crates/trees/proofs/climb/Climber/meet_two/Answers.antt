use Rattle.std.proofs.Common.{◌<◌, is_some, sym, ap, ◌∙◌, arith}
use Rattle.trees.specs.Deepest.{meet_of}
use Rattle.trees.proofs.Upward.{child}
use Rattle.trees.proofs.Meet.{meet_same, meet_left, meet_right}
use Rattle.trees.proofs.climb.Climber.meet_two.Goals as goal

pub unwrap-left-requires : goal.unwrap-left-requires
unwrap-left-requires g c =
    let t = g.H.Host.laws c.args.self.now.host.now c.args.self.now.count c.args.self.now.tree in
    ap is_some (c.parent.ensures ∙ (t.inner c.loop-left.left (omega (arith, c.if-left-right.true)) c.loop-left.invariant.0).1)

pub loop-left-smaller-then-left-right : goal.loop-left-smaller-then-left-right
loop-left-smaller-then-left-right g c =
    let t = g.H.Host.laws c.args.self.now.host.now c.args.self.now.count c.args.self.now.tree in
    let s = child t c.loop-left.left c.unwrap-left.result (sym c.parent.ensures ∙ c.unwrap-left.ensures) in
    omega (arith, s.0)

pub loop-left-preserved-then-left-right : goal.loop-left-preserved-then-left-right
loop-left-preserved-then-left-right g c =
    let t = g.H.Host.laws c.args.self.now.host.now c.args.self.now.count c.args.self.now.tree in
    let e = sym c.parent.ensures ∙ c.unwrap-left.ensures in
    let s = child t c.loop-left.left c.unwrap-left.result e in (
      omega (arith, s.0, c.loop-left.invariant.0),
      c.loop-left.invariant.1,
      sym (meet_left t c.loop-left.left c.loop-left.right c.unwrap-left.result c.if-left-right.true e) ∙ c.loop-left.invariant.2,
    )

pub unwrap-right-requires : goal.unwrap-right-requires
unwrap-right-requires g c =
    let t = g.H.Host.laws c.args.self.now.host.now c.args.self.now.count c.args.self.now.tree in
    let l : c.loop-left.left < c.loop-left.right = omega (arith, c.loop-left-test.true, c.if-left-right.false) in
    ap is_some (c.parent-else-left-right.ensures ∙ (t.inner c.loop-left.right (omega (arith, l)) c.loop-left.invariant.1).1)

pub loop-left-smaller : goal.loop-left-smaller
loop-left-smaller g c =
    let t = g.H.Host.laws c.args.self.now.host.now c.args.self.now.count c.args.self.now.tree in
    let s = child t c.loop-left.right c.unwrap-right.result (sym c.parent-else-left-right.ensures ∙ c.unwrap-right.ensures) in
    omega (arith, s.0)

pub loop-left-preserved : goal.loop-left-preserved
loop-left-preserved g c =
    let t = g.H.Host.laws c.args.self.now.host.now c.args.self.now.count c.args.self.now.tree in
    let e = sym c.parent-else-left-right.ensures ∙ c.unwrap-right.ensures in
    let s = child t c.loop-left.right c.unwrap-right.result e in
    let l : c.loop-left.left < c.loop-left.right = omega (arith, c.loop-left-test.true, c.if-left-right.false) in (
      c.loop-left.invariant.0,
      omega (arith, s.0, c.loop-left.invariant.1),
      sym (meet_right t c.loop-left.right c.unwrap-right.result e c.loop-left.left l) ∙ c.loop-left.invariant.2,
    )

pub returns-clause-same : goal.returns-clause-same
returns-clause-same g c =
    let t = g.H.Host.laws c.args.self.now.host.now c.args.self.now.count c.args.self.now.tree in
    let p = g.H.Host.parents c.args.self.now.host.now in
    sym (ap (meet_of p c.loop-left.left) (sym c.loop-left-test.false) ∙ meet_same t c.loop-left.left) ∙ c.loop-left.invariant.2
