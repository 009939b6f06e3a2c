use Rattle.std.proofs.Common.{◌≡◌, ◌+◌, ◌<◌, ◌≤◌, ◌++◌, length, map, take}
use Rattle.std.specs.List.{AllByRecursion}
use Rattle.rows.specs.Chains.{at, chain}
use Rattle.rows.proofs.chains.list_weights.Given as goal

-- the weights so far, and those of the nodes that are left, are those of the whole chain
abbrev pub invariant-loop-c : goal.invariant-loop-c
invariant-loop-c l =
    record {
      can : (goal.iterator-loop-c).can_next l.c-iterator;
      ends : (goal.iterator-loop-c).is_finite l.c-iterator;
      inside : AllByRecursion (λ x. x < length l.chains.next.now) l.c-iterator;
      room : l.many + length l.c-iterator ≤ length l.list;
      listed : take l.many l.list ++ map (at l.chains.weight.now) l.c-iterator ≡ map (at l.chains.weight.now) (chain l.chains.next.now l.from);
    }
