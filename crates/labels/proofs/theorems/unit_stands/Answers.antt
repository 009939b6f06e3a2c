use Rattle.labels.proofs.Unit.{worked_out}
use Rattle.labels.proofs.theorems.unit_stands.Goals as goal

pub returns : goal.returns
returns c = worked_out
