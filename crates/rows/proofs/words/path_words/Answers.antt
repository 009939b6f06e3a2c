use Rattle.std.proofs.Common.{◌<◌, length, arith}
use Rattle.labels.proofs.Paths.{top_le}
use Rattle.rows.proofs.Trees.{tree}
use Rattle.rows.proofs.PathRows.{path_fine, begins, path_skip, path_turn}
use Rattle.rows.proofs.words.path_words.Goals as goal
use Rattle.rows.proofs.words.path_words.Goals.{then-not-is_heavy, else-not-is_heavy}

pub code_chain-requires-clause-fine : goal.code_chain-requires-clause-fine
code_chain-requires-clause-fine g c =
    let t = c.args.tree.now.grown in
    path_fine t.up.row.now t.heavy.now c.args.tree.now.light.now t.up.rooted t.chosen t.heavies c.args.tree.now.weighed c.loop-t.t (omega arith)

pub loop-t-preserved : goal.loop-t-preserved
loop-t-preserved g c =
    let f = g.C.Code.words c.args.code.now in
    let t = c.args.tree.now.grown in
    let light = c.args.tree.now.light.now in
    let l : c.loop-t.t < length c.args.tree.now.grown.up.row.now = omega arith in
    let a = c.loop-t.desk.words in
    elim c.if-not-is_heavy.branch [
      | then-not-is_heavy w ↦
          let b = w.code_chain.new.desk.words in
          let begin = begins t.up.row.now t.heavy.now t.up.rooted t.chosen t.heavies c.loop-t.t l (c.is_heavy.ensures.if_false w.if-not-is_heavy.true) in
          rw w.desk-is (record {
            room = omega (arith, t.heavies, w.code_chain.ensures.room);
            stored = path_turn t.up.row.now t.heavy.now light t.up.rooted t.chosen t.heavies c.args.tree.now.weighed f c.loop-t.t l a.high.now a.low.now a.len.now b.high.now b.low.now b.len.now begin w.code_chain.ensures.stored c.loop-t.invariant.stored;
          })
      | else-not-is_heavy w ↦
          let h = c.is_heavy.ensures.if_true w.if-not-is_heavy.false in
          rw w.desk-is (record {
            room = c.loop-t.invariant.room;
            stored = path_skip t.up.row.now t.heavy.now light t.up.rooted t.chosen t.heavies c.args.tree.now.weighed f c.loop-t.t l a.high.now a.low.now a.len.now h.0 h.1 c.loop-t.invariant.stored;
          })
    ]

pub returns-clause-paths : goal.returns-clause-paths
returns-clause-paths g c v l =
    let p = top_le (tree c.args.tree.now.grown.up.row.now c.args.tree.now.grown.up.rooted) v in
    c.loop-t.invariant.stored v l (omega arith)
