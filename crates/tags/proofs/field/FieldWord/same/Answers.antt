use Rattle.std.proofs.Common.{leb, ap, ◌∙◌}
use Rattle.tags.proofs.Compared.{same_longer}
use Rattle.tags.proofs.field.FieldWord.same.Goals as goal

pub returns : goal.returns
returns c = ap (λ n. leb n c.common.result) c.max.ensures ∙ same_longer c.args.self.now c.args.other.now c.common.result c.common.ensures
