use Rattle.std.proofs.Common.{false, Some, ap, ◌∙◌}
use mathlib.Core.Bool.{beq}
use Rattle.std.specs.Option.{option_eq}
use Rattle.std.proofs.lemmas.Bool.{le-ltb}
use Rattle.tags.proofs.Compared.{zero_none, zero_some}
use Rattle.tags.proofs.field.FieldWord.zero_first.Goals as goal

pub returns-then-shared-other : goal.returns-then-shared-other
returns-then-shared-other c =
    c.eq.ensures
    ∙ ap (λ o. option_eq beq o (Some false)) c.bit.ensures
    ∙ zero_some c.args.self.now c.args.other.now c.common-shared.result c.common-shared.ensures c.if-shared-other.true

pub returns-else-shared-other : goal.returns-else-shared-other
returns-else-shared-other c =
    le-ltb c.common-shared.result c.args.other.now.len c.if-shared-other.false
    ∙ zero_none c.args.self.now c.args.other.now c.common-shared.result c.common-shared.ensures c.if-shared-other.false
