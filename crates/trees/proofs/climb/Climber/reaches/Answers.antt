use Rattle.std.proofs.Common.{sym, ◌∙◌, arith}
use Rattle.std.proofs.lemmas.Bool.{ne_eqb}
use Rattle.trees.proofs.Upward.{child}
use Rattle.trees.proofs.Above.{above_none, above_up, above_end}
use Rattle.trees.proofs.climb.Climber.reaches.Goals as goal

pub returns-in_default : goal.returns-in_default
returns-in_default g c =
    let t = g.H.Host.laws c.args.self.now.host.now c.args.self.now.count c.args.self.now.tree in
    let n = ne_eqb c.args.a c.loop-node.node (λ z. omega (arith, z, c.loop-node-test.true)) in
    sym (above_none t c.args.a c.loop-node.node (sym c.parent.ensures ∙ c.in_default.is) ∙ n) ∙ c.loop-node.invariant

pub loop-node-preserved : goal.loop-node-preserved
loop-node-preserved g c =
    let t = g.H.Host.laws c.args.self.now.host.now c.args.self.now.count c.args.self.now.tree in
    sym (above_up t c.args.a c.loop-node.node c.in-Some.parent c.loop-node-test.true (sym c.in-Some.ensures)) ∙ c.loop-node.invariant

pub loop-node-smaller : goal.loop-node-smaller
loop-node-smaller g c =
    let t = g.H.Host.laws c.args.self.now.host.now c.args.self.now.count c.args.self.now.tree in
    (child t c.loop-node.node c.in-Some.parent (sym c.in-Some.ensures)).0

pub returns : goal.returns
returns g c =
    let t = g.H.Host.laws c.args.self.now.host.now c.args.self.now.count c.args.self.now.tree in
    above_end t c.args.a c.loop-node.node c.loop-node-test.false ∙ c.loop-node.invariant
