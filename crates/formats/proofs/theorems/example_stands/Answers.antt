use Rattle.formats.proofs.Trip.{marked}
use Rattle.formats.proofs.theorems.example_stands.Goals as goal

pub returns : goal.returns
returns c = marked
