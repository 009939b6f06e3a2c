use Rattle.histories.proofs.theorems.example_happens.Goals as goal
use Rattle.histories.proofs.Wrong.{happens}

pub returns : goal.returns
returns c = happens
