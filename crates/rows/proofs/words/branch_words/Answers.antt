use Rattle.std.proofs.Common.{ℕ, ◌<◌, map, length, sym, subst, arith}
use Rattle.trees.proofs.Upward.{child}
use Rattle.codes.specs.Weighing.{Weights}
use Rattle.labels.proofs.Sizes.{light_child}
use Rattle.rows.specs.Chains.{at, chain, Stored}
use Rattle.rows.proofs.Runs.{link_none, link_some}
use Rattle.rows.proofs.Trees.{tree}
use Rattle.rows.proofs.BranchRows.{branch_in, branch_fine, branch_skip, branch_turn}
use Rattle.rows.proofs.words.branch_words.Goals as goal
use Rattle.rows.proofs.words.branch_words.Goals.{in-Some, in_default}

pub code_chain-requires-clause-inside : goal.code_chain-requires-clause-inside
code_chain-requires-clause-inside g c =
    let t = c.args.tree.now.grown in
    let p = c.loop-number.number-index in
    let k = link_some (at c.args.tree.now.first.now p) c.in-Some.c c.in-Some.ensures in
    omega (arith, branch_in t.up.row.now t.size.now c.args.tree.now.first.now c.args.tree.now.next.now t.up.rooted t.sized c.args.tree.now.linked p (omega arith) k.1, k.0, c.args.tree.now.nexts)

pub code_chain-requires-clause-fine : goal.code_chain-requires-clause-fine
code_chain-requires-clause-fine g c =
    let t = c.args.tree.now.grown in
    let p = c.loop-number.number-index in
    let k = link_some (at c.args.tree.now.first.now p) c.in-Some.c c.in-Some.ensures in
    subst (λ (x : ℕ). Weights (map (at c.args.tree.now.grown.size.now) (chain c.args.tree.now.next.now x))) (sym k.0)
    (branch_fine t.up.row.now t.size.now c.args.tree.now.first.now c.args.tree.now.next.now t.up.rooted t.sized c.args.tree.now.linked p (omega arith) k.1)

pub loop-number-preserved : goal.loop-number-preserved
loop-number-preserved g c =
    let f = g.C.Code.words c.args.code.now in
    let t = c.args.tree.now.grown in
    let p = c.loop-number.number-index in
    let l : c.loop-number.number-index < length c.args.tree.now.grown.up.row.now = omega arith in
    let a = c.loop-number.desk.words in
    elim c.match-link.branch [
      | in-Some w ↦
          let k = link_some (at c.args.tree.now.first.now p) w.in-Some.c w.in-Some.ensures in
          let b = w.code_chain.new.desk.words in
          let s = subst (λ (x : ℕ). Stored (g.C.Code.words c.args.code.now (map (at c.args.tree.now.grown.size.now) (chain c.args.tree.now.next.now x))) (chain c.args.tree.now.next.now x) c.loop-number.desk.words.high.now c.loop-number.desk.words.low.now c.loop-number.desk.words.len.now w.code_chain.new.desk.words.high.now w.code_chain.new.desk.words.low.now w.code_chain.new.desk.words.len.now) k.0 w.code_chain.ensures.stored in
          rw w.desk-is (record {
            room = omega (arith, w.code_chain.ensures.room);
            stored = branch_turn t.up.row.now t.size.now c.args.tree.now.first.now c.args.tree.now.next.now t.up.rooted t.sized c.args.tree.now.linked p l f a.high.now a.low.now a.len.now b.high.now b.low.now b.len.now k.1 s c.loop-number.invariant.stored;
          })
      | in_default w ↦
          rw w.desk-is (record {
            room = c.loop-number.invariant.room;
            stored = branch_skip t.up.row.now t.size.now c.args.tree.now.first.now c.args.tree.now.next.now t.up.rooted t.sized c.args.tree.now.linked p l f a.high.now a.low.now a.len.now (link_none (at c.args.tree.now.first.now p) w.in_default.ensures) c.loop-number.invariant.stored;
          })
    ]

pub returns-clause-branches : goal.returns-clause-branches
returns-clause-branches g c q k t =
    let T = tree c.args.tree.now.grown.up.row.now c.args.tree.now.grown.up.rooted in
    let i = child T k q (light_child T q k t) in
    c.loop-number.invariant.stored q k (omega arith) t
