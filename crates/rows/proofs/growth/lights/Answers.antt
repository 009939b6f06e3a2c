use Rattle.std.proofs.Common.{◌≡◌, ℕ, ◌-◌, length, ap, ◌∙◌, arith}
use Rattle.labels.specs.Sizes.{light_size}
use Rattle.rows.specs.Chains.{at}
use Rattle.rows.specs.Rows.{parents_in}
use Rattle.rows.proofs.Runs.{link_none, link_some}
use Rattle.rows.proofs.PathRows.{light_leaf, light_rest_fits, light_rest_is}
use Rattle.rows.proofs.Labelled.{stored_more}
use Rattle.rows.proofs.growth.lights.Goals as goal
use Rattle.rows.proofs.growth.lights.Goals.{in-None, in-Some}

pub overflow_sub-place : goal.overflow_sub-place
overflow_sub-place c =
    let g = c.args.grown.now in
    let k = link_some (at g.heavy.now c.loop-v.v) c.in-Some.h c.in-Some.ensures in
    let s = ap (at g.size.now) k.0 in
    omega (arith, s, light_rest_fits g.up.row.now g.size.now g.heavy.now g.up.rooted g.sized g.chosen g.heavies c.loop-v.v (omega arith) k.1)

pub loop-v-preserved : goal.loop-v-preserved
loop-v-preserved c =
    let g = c.args.grown.now in
    let is : c.match-link.place ≡ light_size (parents_in c.args.grown.now.up.row.now) (length c.args.grown.now.up.row.now) c.loop-v.v =
    elim c.match-link.branch [
      | in-None w ↦ w.place-is ∙ light_leaf g.up.row.now g.size.now g.heavy.now g.up.rooted g.sized g.chosen g.heavies c.loop-v.v (omega arith) (link_none (at g.heavy.now c.loop-v.v) w.in-None.ensures)
      | in-Some w ↦
          let k = link_some (at g.heavy.now c.loop-v.v) w.in-Some.h w.in-Some.ensures in
          w.place-is ∙ ap (λ (x : ℕ). at g.size.now c.loop-v.v - at g.size.now x) k.0
          ∙ light_rest_is g.up.row.now g.size.now g.heavy.now g.up.rooted g.sized g.chosen g.heavies c.loop-v.v (omega arith) k.1
    ] in
    stored_more (light_size (parents_in g.up.row.now) (length g.up.row.now)) c.loop-v.light c.loop-v.v c.match-link.place is (omega arith) c.loop-v.invariant
