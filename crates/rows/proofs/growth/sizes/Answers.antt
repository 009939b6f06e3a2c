use Rattle.std.proofs.Common.{◌≡◌, ap, ◌∙◌, arith}
use Rattle.rows.proofs.Grown.{size_is}
use Rattle.rows.proofs.Handing.{size_from}
use Rattle.rows.proofs.growth.sizes.Goals as goal

pub returns : goal.returns
returns c v h =
    let e : c.loop-v.v ≡ 1 = omega (arith, c.loop-v.invariant.low) in
    c.loop-v.invariant.handed v h ∙ ap (λ i. size_from c.args.up.now.row.now i v) e ∙ size_is c.args.up.now.row.now c.args.up.now.rooted v
