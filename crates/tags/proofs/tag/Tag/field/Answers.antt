use Rattle.std.proofs.Common.{sym, ap, ◌∙◌, Some, arith}
use Rattle.formats.proofs.Places.{here, past}
use Rattle.tags.proofs.Showing.{shown_all}
use Rattle.tags.proofs.tag.Tag.field.Goals as goal

pub returns-then-i-count-clause-shows : goal.returns-then-i-count-clause-shows
returns-then-i-count-clause-shows c =
    ap Some c.pick.ensures.shows ∙ sym (shown_all c.args.self.now.bytes.now c.args.self.now.readable c.args.i (omega arith))

pub returns-then-i-count-clause-reads : goal.returns-then-i-count-clause-reads
returns-then-i-count-clause-reads c = ap Some c.pick.ensures.reads ∙ sym (here c.args.self.now.bytes.now c.args.i (omega arith))

pub returns-else-i-count-clause-reads : goal.returns-else-i-count-clause-reads
returns-else-i-count-clause-reads c = sym (past c.args.self.now.bytes.now c.args.i (omega arith))
