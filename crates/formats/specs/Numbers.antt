-- The number of each refusal, case by case.
use Rattle.std.specs.Prelude.{ℕ}
use Rattle.formats.specs.declared.fault.TagFault.{TagFault}
use Rattle.formats.specs.declared.fault.TagFault.TheVariants.{Number, Count, Head, End, Depth, Length, Spare}
use Rattle.formats.specs.declared.fault.PairRefusal.{PairRefusal}
use Rattle.formats.specs.declared.fault.PairRefusal.TheVariants.{OneTag, TreeNumbers, NotOneTree}
use Rattle.formats.specs.declared.fault.CutRefusal.{CutRefusal}
use Rattle.formats.specs.declared.fault.CutRefusal.TheVariants.{InTag, Fields, Room}

abbrev pub number_of : TagFault → ℕ
number_of Number = 13
number_of Count = 14
number_of Head = 15
number_of End = 16
number_of Depth = 17
number_of Length = 18
number_of Spare = 19

-- a query on two tags: the number of a faulty tag's fault, whichever side it is on
abbrev pub pair_number_of : PairRefusal → ℕ
pair_number_of (OneTag side fault) = number_of fault
pair_number_of TreeNumbers = 20
pair_number_of NotOneTree = 21

abbrev pub cut_number_of : CutRefusal → ℕ
cut_number_of (InTag fault) = number_of fault
cut_number_of Fields = 22
cut_number_of Room = 23
