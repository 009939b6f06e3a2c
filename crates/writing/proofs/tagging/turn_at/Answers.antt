use Rattle.std.proofs.Common.{length, arith}
use Rattle.labels.specs.Labels.{branch_word}
use Rattle.rows.specs.Chains.{at}
use Rattle.rows.specs.Rows.{parents_in}
use Rattle.rows.proofs.Labelled.{branch_short}
use Rattle.writing.proofs.Tagged.{light, turned, held_same}
use Rattle.writing.proofs.tagging.turn_at.Goals as goal

pub word_at-requires-clause-short : goal.word_at-requires-clause-short
word_at-requires-clause-short g c =
    let m = c.args.marks.now in
    let f = g.C.Code.words m.words.code.now in
    let t = at m.words.top.now c.args.v in
    let l = light f m.words.up.row.now m.words.up.rooted c.args.v c.requires t (m.words.topped c.args.v c.requires) c.if-top-eq0.false in
    omega (arith, (m.words.branches (at m.words.up.row.now t) t l).1, (branch_short m.words.up.row.now m.words.up.rooted f (g.C.Code.laws m.words.code.now) (at m.words.up.row.now t) t l).most_bits)

pub returns : goal.returns
returns g c =
    let m = c.args.marks.now in
    let f = g.C.Code.words m.words.code.now in
    let up = m.words.up.row.now in
    let t = at m.words.top.now c.args.v in
    let l = light f up m.words.up.rooted c.args.v c.requires t (m.words.topped c.args.v c.requires) c.if-top-eq0.false in
    let held = m.words.branches (at up t) t l in
    let short = (branch_short up m.words.up.rooted f (g.C.Code.laws m.words.code.now) (at up t) t l).most_bits in
    let read = c.word_at.ensures.1 in
    turned f up m.words.up.rooted c.args.v c.requires t (m.words.topped c.args.v c.requires) c.if-top-eq0.false c.word_at.result (omega (arith, held.1))
    (held_same c.word_at.result (branch_word (parents_in up) (length up) f (at up t) t) m.words.branch.high.now m.words.branch.low.now m.words.branch.len.now t c.word_at.ensures held)
