use Rattle.labels.proofs.Short.{light_halves}
use Rattle.labels.proofs.theorems.halves_stand.Goals as goal

pub returns : goal.returns
returns c = light_halves
