use Rattle.std.proofs.Common.{◌≡◌, length, get_or, arith}
use Rattle.rows.proofs.Grown.{heavy_is_link}
use Rattle.rows.proofs.growth.heavies.Goals as goal

pub returns : goal.returns
returns c v l =
    let e : c.loop-v.v-counter ≡ length c.args.up.now.row.now = omega (arith, c.args.up.now.rooted.any) in
    heavy_is_link c.args.up.now.row.now c.args.up.now.rooted c.args.size.now c.requires.sized v (get_or c.loop-v.heavy v 0) (rw e at (c.loop-v.invariant v l))
