use Rattle.std.proofs.Common.{◌≡◌, sym, ◌∙◌, subst, arith}
use Rattle.formats.specs.Models.{label_of}
use Rattle.formats.proofs.Walks.{Walked}
use Rattle.tags.proofs.Parting.{over, parted, clashing, two_depths, onward}
use Rattle.tags.proofs.pair.parting.Goals as goal

pub returns-then-clashes : goal.returns-then-clashes
returns-then-clashes c =
    clashing c.args.first.now.bytes.now c.args.second.now.bytes.now c.loop-j.j c.loop-j.invariant (omega arith) c.pick-x.result c.pick-y.result c.pick-x.ensures.reads c.pick-y.ensures.reads
    c.word.result c.word-in-loop-j.result c.word.ensures c.word-in-loop-j.ensures c.same.result c.same.ensures c.if-not-same.true _ c.clashes.ensures
    ∙ c.if-clashes.true

pub returns-else-clashes : goal.returns-else-clashes
returns-else-clashes c = (
  parted c.args.first.now.bytes.now c.args.second.now.bytes.now c.loop-j.j c.loop-j.invariant (omega arith) c.pick-x.result c.pick-y.result c.pick-x.ensures.reads c.pick-y.ensures.reads
      c.word.result c.word-in-loop-j.result c.word.ensures c.word-in-loop-j.ensures c.same.result c.same.ensures c.if-not-same.true,
  clashing c.args.first.now.bytes.now c.args.second.now.bytes.now c.loop-j.j c.loop-j.invariant (omega arith) c.pick-x.result c.pick-y.result c.pick-x.ensures.reads c.pick-y.ensures.reads
      c.word.result c.word-in-loop-j.result c.word.ensures c.word-in-loop-j.ensures c.same.result c.same.ensures c.if-not-same.true _ c.clashes.ensures
      ∙ c.if-clashes.false,
)

pub returns-then-unlike : goal.returns-then-unlike
returns-then-unlike c =
    two_depths c.args.first.now.bytes.now c.args.second.now.bytes.now c.loop-j.j c.loop-j.invariant (omega arith) c.pick-x.result c.pick-y.result c.pick-x.ensures.reads c.pick-y.ensures.reads
    c.word.result c.word-in-loop-j.result c.word.ensures c.word-in-loop-j.ensures c.same.result c.same.ensures c.if-not-same.false (sym c.unlike.ensures ∙ c.if-unlike.true)

pub loop-j-preserved : goal.loop-j-preserved
loop-j-preserved c =
    onward c.args.first.now.bytes.now c.args.second.now.bytes.now c.loop-j.j c.loop-j.invariant (omega arith) c.pick-x.result c.pick-y.result c.pick-x.ensures.reads c.pick-y.ensures.reads
    c.word.result c.word-in-loop-j.result c.word.ensures c.word-in-loop-j.ensures c.same.result c.same.ensures c.if-not-same.false (sym c.unlike.ensures ∙ c.if-unlike.false)

pub returns : goal.returns
returns c =
    let z : c.loop-j.j ≡ c.min-shorter.result = omega arith in
    over c.args.first.now.bytes.now c.args.second.now.bytes.now c.min-shorter.result
    (subst (Walked (label_of c.args.first.now.bytes.now) (label_of c.args.second.now.bytes.now)) z c.loop-j.invariant) (omega arith)
