use Rattle.std.proofs.Common.{arith}
use Rattle.formats.proofs.Trip.{reads_as}
use Rattle.tags.proofs.tag.Tag.read.Goals as goal

pub returns-clause-reads : goal.returns-clause-reads
returns-clause-reads c = reads_as c.args.bytes.now (λ i. omega (arith, c.type_inv.bytes i)) c.in_ok-check.ensures
