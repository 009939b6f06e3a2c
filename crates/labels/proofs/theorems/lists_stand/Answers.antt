use Rattle.labels.proofs.Weighing.{lists_accepted}
use Rattle.labels.proofs.theorems.lists_stand.Goals as goal

pub returns : goal.returns
returns c = lists_accepted
