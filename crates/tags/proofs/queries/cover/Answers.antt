use Rattle.tags.proofs.Paired.{shared_by, at_bytes}
use Rattle.formats.specs.Theorems.{Shared}
use Rattle.tags.proofs.queries.cover.Goals as goal

pub returns-clause-shared : goal.returns-clause-shared
returns-clause-shared c =
    at_bytes (λ l m. Shared l m c.cover.result) c.in_ok-read.field-0 c.args.first.now c.args.second.now c.in_ok-read.ensures (shared_by c.in_ok-read.field-0 c.cover.result c.cover.ensures)
