use Rattle.labels.proofs.Labels.{definitions_mean}
use Rattle.labels.proofs.theorems.definitions_stand.Goals as goal

pub returns : goal.returns
returns c = definitions_mean
