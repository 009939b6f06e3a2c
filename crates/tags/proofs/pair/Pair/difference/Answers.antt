use Rattle.tags.proofs.Paired.{difference_by, difference_both}
use Rattle.tags.proofs.pair.Pair.difference.Goals as goal

pub returns-in-None-None : goal.returns-in-None-None
returns-in-None-None c = difference_by c.args.self.now _ _ c.in-None-None.ensures.reads c.in-None-None.ensures'.reads

pub returns-in-None-Some : goal.returns-in-None-Some
returns-in-None-Some c = difference_by c.args.self.now _ _ c.in-None-Some.ensures.reads c.in-None-Some.ensures'.reads

pub returns-in-Some-None : goal.returns-in-Some-None
returns-in-Some-None c = difference_by c.args.self.now _ _ c.in-Some-None.ensures.reads c.in-Some-None.ensures'.reads

pub returns-in-Some-Some : goal.returns-in-Some-Some
returns-in-Some-Some c =
    difference_both c.args.self.now _ _ c.in-Some-Some.ensures.reads c.in-Some-Some.ensures'.reads _ _ c.word.ensures c.word-in-Some-Some.ensures _ c.common.ensures
