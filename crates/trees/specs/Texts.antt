-- How what climbing answers is printed.
use Rattle.std.specs.Prelude.{ℕ, List, ◌++◌, codes}
use Rattle.std.specs.Fmt.{decimal}
use Rattle.trees.specs.Fault.{fault_text}
use Rattle.trees.specs.declared.climb.ClimbRefusal.{ClimbRefusal}
use Rattle.trees.specs.declared.climb.ClimbRefusal.TheVariants.{NoTree, NoSuchNode}
use Rattle.trees.specs.declared.climb.Assembly.{Assembly}

-- how a refusal is printed
abbrev pub refusal_text : ClimbRefusal → List ℕ
refusal_text (NoTree f) = codes "fault " ++ fault_text f
refusal_text (NoSuchNode v) = codes "no such node " ++ decimal v

-- how an assembly is printed
abbrev pub assembly_text : Assembly → List ℕ
assembly_text m = decimal m.node ++ (codes " depth " ++ decimal m.depth)
