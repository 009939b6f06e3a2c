-- What our hosts share.
use Rattle.std.specs.Prelude.{ℕ, cond, None, Ok, Err, Option, Result, ◌==◌, nat_lt}
use Rattle.trees.specs.declared.host.FaultKind.TheVariants.{Empty, TooMany}
use Rattle.trees.specs.declared.host.HostFault.{HostFault}
use Rattle.trees.specs.Tree.{most_nodes}
use Rattle.trees.specs.Fault.{fault}

-- a count of nodes n, or the fault of one that no tree has: too many are told at place p
abbrev pub count_verdict : ℕ → ℕ → Result ℕ HostFault
count_verdict n p =
    cond (n == 0) (Err (fault Empty 0))
    (cond (nat_lt most_nodes n) (Err (fault TooMany p))
    (Ok n))

-- what a host answers for v that has o for the parent of v: none under a fault, for the root and for what is no node
abbrev pub for_children : Result ℕ HostFault → ℕ → Option ℕ → Option ℕ
for_children (Err f) v o = None
for_children (Ok n) v o = cond (v == 0) None (cond (nat_lt v n) o None)
