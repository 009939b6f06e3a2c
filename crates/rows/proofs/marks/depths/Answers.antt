use Rattle.std.proofs.Common.{◌≡◌, ℕ, ◌+◌, ◌<◌, ◌≤◌, length, sym, ap, ◌∙◌, arith}
use Rattle.rows.specs.Chains.{at}
use Rattle.trees.specs.Above.{depth_of}
use Rattle.rows.specs.Rows.{parents_in}
use Rattle.rows.proofs.Labelled.{stored_more, depth_root, depth_more}
use Rattle.rows.proofs.marks.depths.Goals as goal
use Rattle.rows.proofs.marks.depths.Goals.{then-v-eq0, else-v-eq0}

pub loop-v-preserved : goal.loop-v-preserved
loop-v-preserved c =
    let up = c.args.up.now in
    let v = c.loop-v.v in
    let l : c.loop-v.v < length c.args.up.now.row.now = omega arith in
    let is : c.if-v-eq0.depth ≡ depth_of (parents_in c.args.up.now.row.now) c.loop-v.v =
    elim c.if-v-eq0.branch [
      | then-v-eq0 w ↦ w.depth-is ∙ sym (depth_root up.row.now up.rooted) ∙ ap (depth_of (parents_in up.row.now)) (sym w.if-v-eq0.true)
      | else-v-eq0 w ↦
          let pos : 1 ≤ c.loop-v.v = omega (arith, w.if-v-eq0.false) in
          w.depth-is ∙ ap (λ (x : ℕ). x + 1) (c.loop-v.invariant (at up.row.now v) (up.rooted.below v pos l)) ∙ sym (depth_more up.row.now up.rooted v pos l)
    ] in
    stored_more (depth_of (parents_in up.row.now)) c.loop-v.depth v c.if-v-eq0.depth is (omega arith) c.loop-v.invariant
