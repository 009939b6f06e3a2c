use Rattle.formats.specs.Models.{label_of}
use Rattle.formats.proofs.Walks.{Walked}
use Rattle.tags.specs.Views.{raw}
use Rattle.tags.proofs.pair.parting.Given as goal

abbrev pub invariant-loop-j : goal.invariant-loop-j
invariant-loop-j l = Walked (label_of (raw l.first)) (label_of (raw l.second)) l.j
