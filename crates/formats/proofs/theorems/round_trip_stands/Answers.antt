use Rattle.formats.proofs.Trip.{trip}
use Rattle.formats.proofs.theorems.round_trip_stands.Goals as goal

pub returns : goal.returns
returns c = trip
