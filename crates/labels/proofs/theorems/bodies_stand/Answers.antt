use Rattle.labels.proofs.Short.{bodies_short}
use Rattle.labels.proofs.theorems.bodies_stand.Goals as goal

pub returns : goal.returns
returns c = bodies_short
