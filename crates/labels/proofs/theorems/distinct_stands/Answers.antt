use Rattle.labels.proofs.Tags.{all_distinct}
use Rattle.labels.proofs.theorems.distinct_stands.Goals as goal

pub returns : goal.returns
returns c = all_distinct
