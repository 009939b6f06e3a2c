use Rattle.trees.proofs.Above.{order}
use Rattle.trees.proofs.climb.is_at_or_above.Goals as goal

pub returns-in_err-check-clause-order : goal.returns-in_err-check-clause-order
returns-in_err-check-clause-order g c = λ n e. order (g.H.Host.laws c.args.host.now n e)

pub returns-clause-order : goal.returns-clause-order
returns-clause-order g c = λ n e. order (g.H.Host.laws c.args.host.now n e)
