-- What a fault's kind and place are called.
use Rattle.std.specs.Prelude.{ℕ, List, ◌++◌, codes}
use Rattle.std.specs.Fmt.{decimal}
use Rattle.trees.specs.declared.host.FaultKind.{FaultKind}
use Rattle.trees.specs.declared.host.FaultKind.TheVariants.{Empty, TooMany, FirstLevel, Level, Other}
use Rattle.trees.specs.declared.host.HostFault.{HostFault}

-- the number that a kind is known by: our own kinds have 1, 2, 7 and 8, and others their own
abbrev pub kind_number : FaultKind → ℕ
kind_number Empty = 1
kind_number TooMany = 2
kind_number FirstLevel = 7
kind_number Level = 8
kind_number (Other number) = number

-- how a fault is printed
abbrev pub fault_text : HostFault → List ℕ
fault_text f = codes "kind " ++ (decimal (kind_number f.kind) ++ (codes " place " ++ decimal f.place))

-- a fault of a kind at a place
abbrev pub fault : FaultKind → ℕ → HostFault
fault k p = record { kind = k; place = p }
