use Rattle.trees.proofs.Upward.{depths}
use Rattle.trees.proofs.climb.depth.Goals as goal

pub returns-in_err-check-clause-rule : goal.returns-in_err-check-clause-rule
returns-in_err-check-clause-rule g c = λ n e. depths (g.H.Host.laws c.args.host.now n e)

pub returns-clause-rule : goal.returns-clause-rule
returns-clause-rule g c = λ n e. depths (g.H.Host.laws c.args.host.now n e)
