use Rattle.std.proofs.Common.{leb, ap, ◌∙◌}
use Rattle.tags.proofs.Compared.{begins_shorter}
use Rattle.tags.proofs.field.FieldWord.one_begins.Goals as goal

pub returns : goal.returns
returns c = ap (λ n. leb n c.common.result) c.min.ensures ∙ begins_shorter c.args.self.now c.args.other.now c.common.result c.common.ensures
