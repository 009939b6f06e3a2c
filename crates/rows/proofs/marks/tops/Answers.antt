use Rattle.std.proofs.Common.{◌≡◌, ◌<◌, length, sym, ◌∙◌, arith}
use Rattle.labels.specs.Paths.{top}
use Rattle.rows.specs.Rows.{parents_in}
use Rattle.rows.proofs.PathRows.{begins}
use Rattle.rows.proofs.Labelled.{stored_more, top_on}
use Rattle.rows.proofs.marks.tops.Goals as goal
use Rattle.rows.proofs.marks.tops.Goals.{then-is_heavy, else-is_heavy}

pub loop-v-preserved : goal.loop-v-preserved
loop-v-preserved c =
    let g = c.args.grown.now in
    let v = c.loop-v.v in
    let l : c.loop-v.v < length c.args.grown.now.up.row.now = omega arith in
    let is : c.if-is_heavy.top ≡ top (parents_in c.args.grown.now.up.row.now) (length c.args.grown.now.up.row.now) c.loop-v.v =
    elim c.if-is_heavy.branch [
      | then-is_heavy w ↦
          let h = c.is_heavy.ensures.if_true w.if-is_heavy.true in
          w.top-is ∙ c.loop-v.invariant _ (g.up.rooted.below v h.0 l) ∙ top_on g.up.row.now g.up.rooted g.heavy.now g.chosen g.heavies v h.0 l h.1
      | else-is_heavy w ↦ w.top-is ∙ sym (begins g.up.row.now g.heavy.now g.up.rooted g.chosen g.heavies v l (c.is_heavy.ensures.if_false w.if-is_heavy.false))
    ] in
    stored_more (top (parents_in g.up.row.now) (length g.up.row.now)) c.loop-v.top v c.if-is_heavy.top is (omega arith) c.loop-v.invariant
