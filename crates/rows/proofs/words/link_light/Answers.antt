use Rattle.std.proofs.Common.{◌≡◌, ◌-◌, arith, rules}
use Rattle.rows.proofs.LinkRows.{link_start, link_skip, link_turn, link_end}
use Rattle.rows.proofs.words.link_light.Goals as goal

pub loop-v-init : goal.loop-v-init
loop-v-init c =
    (omega (arith, c.args.grown.now.up.rooted.any), link_start c.args.grown.now.up.row.now c.fill.new.self c.fill-2.new.self (λ p h. search rules) (λ p h. search rules))

pub loop-v-preserved : goal.loop-v-preserved
loop-v-preserved c =
    let g = c.args.grown.now in (
      omega arith,
      link_skip g.up.row.now g.heavy.now c.loop-v.first c.loop-v.next g.up.rooted g.chosen g.heavies (c.loop-v.v - 1) c.loop-v.v (omega arith) (omega arith) (omega arith) c.loop-v.invariant.1 (c.is_heavy.ensures.if_true c.if-not-is_heavy.false).1,
    )

pub loop-v-preserved-then-not-is_heavy : goal.loop-v-preserved-then-not-is_heavy
loop-v-preserved-then-not-is_heavy c =
    let g = c.args.grown.now in (
      omega arith,
      link_turn g.up.row.now g.heavy.now c.loop-v.first c.loop-v.next g.up.rooted g.chosen g.heavies (c.loop-v.v - 1) c.loop-v.v (omega arith) (omega arith) (omega arith) c.loop-v.invariant.1
          (λ e. c.is_heavy.ensures.if_false c.if-not-is_heavy.true (omega arith, e)) (omega arith) (omega arith),
    )

pub returns-clause-linked : goal.returns-clause-linked
returns-clause-linked c =
    let e : c.loop-v.v ≡ 1 = omega (arith, c.loop-v.invariant.0) in
    link_end c.args.grown.now.up.row.now c.loop-v.first c.loop-v.next c.args.grown.now.up.rooted c.loop-v.v e c.loop-v.invariant.1
