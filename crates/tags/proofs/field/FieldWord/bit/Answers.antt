use Rattle.std.proofs.Common.{refl, ◌∙◌}
use Rattle.tags.proofs.Shown.{bit_there}
use Rattle.tags.proofs.field.FieldWord.bit.Goals as goal

pub returns : goal.returns
returns c = c.then_some.ensures ∙ bit_there c.args.self.now c.args.t _ c.bit.result refl c.bit.ensures
