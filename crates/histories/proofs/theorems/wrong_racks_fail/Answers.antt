use Rattle.histories.proofs.theorems.wrong_racks_fail.Goals as goal
use Rattle.histories.proofs.Wrong.{wrong_racks}

pub returns : goal.returns
returns c = wrong_racks
