use Rattle.tags.proofs.Paired.{at_bytes}
use Rattle.formats.specs.Theorems.{Exact}
use Rattle.tags.proofs.queries.relate.Goals as goal

pub returns-clause-exact : goal.returns-clause-exact
returns-clause-exact c =
    at_bytes (λ l m. Exact l m c.relate.result) c.in_ok-read.field-0 c.args.first.now c.args.second.now c.in_ok-read.ensures c.relate.ensures.exact
