use Rattle.std.proofs.Common.{◌≡◌, ◌≤◌, drop}
use Rattle.codes.specs.Weighing.{most_weight, added_to}
use Rattle.codes.proofs.item.added.Given as goal

-- what is left to add comes to the same
abbrev pub invariant-loop-weight : goal.invariant-loop-weight
invariant-loop-weight l = (added_to l.sum (drop l.weight-index l.weights) ≡ added_to l.fn.sum l.weights) × (l.sum ≤ most_weight)
