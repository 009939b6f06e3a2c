use Rattle.labels.proofs.Shape.{tags_readable}
use Rattle.labels.proofs.theorems.tags_stand.Goals as goal

pub returns : goal.returns
returns c = tags_readable
