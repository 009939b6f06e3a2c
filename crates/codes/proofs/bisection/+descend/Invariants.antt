use Rattle.codes.proofs.bisection.+descend.Given as goal

abbrev pub decreases-descend : goal.decreases-descend
decreases-descend l = l.n
