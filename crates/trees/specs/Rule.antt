-- What a host by a rule answers.
use Rattle.std.specs.Prelude.{ℕ, ◌-◌, ◌/◌, Some, Option, Result, List, codes}
use Rattle.trees.specs.declared.host.HostFault.{HostFault}
use Rattle.trees.specs.declared.rule.Shape.{Shape}
use Rattle.trees.specs.declared.rule.Shape.TheVariants.{Chain, Star, Binary}
use Rattle.trees.specs.Host.{count_verdict, for_children}

abbrev pub rule_verdict : ℕ → Result ℕ HostFault
rule_verdict n = count_verdict n 0

-- the parent of a node other than the root
abbrev pub parent_by : Shape → ℕ → ℕ
parent_by Chain v = v - 1
parent_by Star v = 0
parent_by Binary v = (v - 1) / 2

abbrev pub rule_parent : Shape → ℕ → ℕ → Option ℕ
rule_parent s n v = for_children (rule_verdict n) v (Some (parent_by s v))

-- how a shape is printed
abbrev pub shape_name : Shape → List ℕ
shape_name Chain = codes "chain"
shape_name Star = codes "star"
shape_name Binary = codes "binary"
