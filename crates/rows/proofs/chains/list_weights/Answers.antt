use Rattle.std.proofs.Common.{◌≡◌, map, ap, ◌∙◌, arith}
use Rattle.rows.specs.Chains.{at, chain}
use Rattle.rows.proofs.Runs.{chain_inside, chain_short}
use Rattle.rows.proofs.chains.list_weights.Goals as goal

pub loop-c-init : goal.loop-c-init
loop-c-init c =
    let e : c.into_iter-c-iterator.result ≡ chain c.args.chains.now.next.now c.args.from = c.into_iter-c-iterator.ensures.into_iter_gives ∙ c.along-c-items.ensures in
    record {
      can = tt;
      ends = tt;
      inside = rw e (chain_inside c.args.chains.now.next.now c.args.chains.now.rising c.args.from c.requires.inside);
      room = rw e (omega (arith, chain_short c.args.chains.now.next.now c.args.chains.now.rising c.args.from c.requires.inside));
      listed = ap (map (at c.args.chains.now.weight.now)) e;
    }
