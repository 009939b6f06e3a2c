-- A refusal of a query on two tags, as the rack tells it.
use Rattle.formats.specs.declared.fault.PairRefusal.{PairRefusal}
use Rattle.formats.specs.declared.fault.PairRefusal.TheVariants as pairs
use Rattle.racks.specs.declared.refusal.RackRefusal.{RackRefusal}
use Rattle.racks.specs.declared.refusal.RackRefusal.TheVariants.{InTag, OtherTree, NotOneTree}

abbrev pub refused_pair : PairRefusal → RackRefusal
refused_pair (pairs.OneTag side fault) = InTag fault
refused_pair pairs.TreeNumbers = OtherTree
refused_pair pairs.NotOneTree = NotOneTree
