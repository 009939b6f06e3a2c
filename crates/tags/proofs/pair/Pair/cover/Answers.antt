use Rattle.std.proofs.Common.{Some, sym, ap, ◌∙◌}
use Rattle.formats.specs.declared.answers.Side.TheVariants.{First, Second}
use Rattle.tags.specs.Views.{said}
use Rattle.tags.proofs.Paired.{cover_by, cover_both}
use Rattle.tags.proofs.pair.Pair.cover.Goals as goal

pub returns-in-None-default : goal.returns-in-None-default
returns-in-None-default c =
    (λ t. record { side = First; fields = c.count.ensures t }) ∙ cover_by c.args.self.now _ _ c.in-None-default.ensures.reads c.field-2.ensures.reads

pub returns-in-Some-None : goal.returns-in-Some-None
returns-in-Some-None c =
    (λ t. record { side = Second; fields = c.count-in-Some-None.ensures t }) ∙ cover_by c.args.self.now _ _ c.in-Some-None.ensures.reads c.in-Some-None.ensures'.reads

pub returns-in-Branch : goal.returns-in-Branch
returns-in-Branch c =
    cover_by c.args.self.now _ _ (ap (λ f. Some (said f)) (sym c.in-Branch.is) ∙ c.in-Some-Some.ensures.reads) c.in-Some-Some.ensures'.reads

pub returns-then-zero_first : goal.returns-then-zero_first
returns-then-zero_first c =
    cover_both c.args.self.now c.in-Path.word _ c.in-Some-Some.y (ap (λ f. Some (said f)) (sym c.in-Path.is) ∙ c.in-Some-Some.ensures.reads) c.in-Some-Some.ensures'.reads _ c.word.ensures _ c.if-zero_first.ensures

pub returns-else-zero_first : goal.returns-else-zero_first
returns-else-zero_first c =
    cover_both c.args.self.now c.in-Path.word _ c.in-Some-Some.y (ap (λ f. Some (said f)) (sym c.in-Path.is) ∙ c.in-Some-Some.ensures.reads) c.in-Some-Some.ensures'.reads _ c.word.ensures _ c.if-zero_first.ensures
