-- What a host of indented lines answers: line v of a parts list, with its level, is node v.
use Rattle.std.specs.Prelude.{ℕ, zero, suc, ◌+◌, ◌-◌, Bool, cond, ◌||◌, List, length, Some, None, Ok, Err, Option, Result, ◌==◌, nat_lt, slice_index}
use Rattle.trees.specs.declared.host.FaultKind.TheVariants.{Empty, TooMany, FirstLevel, Level}
use Rattle.trees.specs.declared.host.HostFault.{HostFault}
use Rattle.trees.specs.Tree.{most_nodes}
use Rattle.trees.specs.Fault.{fault}
use Rattle.trees.specs.Host.{for_children}

-- line v, which is not the first, has level 0, or a level more than one above that of the line before
abbrev pub misplaced : List ℕ → ℕ → Bool
misplaced xs v = slice_index xs v == 0 || nat_lt (slice_index xs (v - 1) + 1) (slice_index xs v)

abbrev pub or_else : Option ℕ → Option ℕ → Option ℕ
or_else (Some v) o = Some v
or_else None o = o

-- the first misplaced line among the lines 1 to k
abbrev pub first_misplaced : List ℕ → ℕ → Option ℕ
first_misplaced xs zero = None
first_misplaced xs (suc k) = or_else (first_misplaced xs k) (cond (misplaced xs (suc k)) (Some (suc k)) None)

-- a fault at that line, or a tree of n nodes
abbrev pub unless_misplaced : Option ℕ → ℕ → Result ℕ HostFault
unless_misplaced (Some v) n = Err (fault Level v)
unless_misplaced None n = Ok n

abbrev pub indented_verdict : List ℕ → Result ℕ HostFault
indented_verdict xs =
    cond (length xs == 0) (Err (fault Empty 0))
    (cond (nat_lt most_nodes (length xs)) (Err (fault TooMany most_nodes))
    (cond (slice_index xs 0 == 0)
    (unless_misplaced (first_misplaced xs (length xs - 1)) (length xs))
    (Err (fault FirstLevel 0))))

-- the greatest u below v whose level is one less than l
abbrev pub nearest : List ℕ → ℕ → ℕ → Option ℕ
nearest xs l zero = None
nearest xs l (suc u) = cond (slice_index xs u + 1 == l) (Some u) (nearest xs l u)

abbrev pub indented_parent : List ℕ → ℕ → Option ℕ
indented_parent xs v = for_children (indented_verdict xs) v (nearest xs (slice_index xs v) v)
