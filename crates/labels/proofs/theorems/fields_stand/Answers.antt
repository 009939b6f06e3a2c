use Rattle.labels.proofs.Short.{fields_bounded}
use Rattle.labels.proofs.theorems.fields_stand.Goals as goal

pub returns : goal.returns
returns c = fields_bounded
