use Rattle.histories.proofs.theorems.promises_stand.Goals as goal
use Rattle.histories.proofs.Whole.{promised}

pub returns : goal.returns
returns c = promised
