use Rattle.std.proofs.Common.{arith, rules}
use Rattle.std.proofs.lemmas.Grind.{common_steps}
use Rattle.texts.proofs.Folding.{folded}
use Rattle.texts.proofs.number.Goals as goal

pub returns : goal.returns
returns c = folded _ _ _ c.args.most c.args.word.now c.iter.result _ c.try_fold.result (λ v x r q k. search rules) (grind (arith, common_steps)) c.iter.ensures.rest c.try_fold.ensures.ran
