use Rattle.std.proofs.Common.{refl, ◌∙◌, rules}
use Rattle.formats.specs.Layout.{begin_at, end_fine}
use Rattle.tags.proofs.Carried.{all_carried}
use Rattle.tags.proofs.layout.ends_rise.Goals as goal

pub returns : goal.returns
returns c =
    c.is_some.ensures
    ∙ all_carried _ _ _ (end_fine c.args.bytes.now) (begin_at c.args.bytes.now) c.args.k _ _ c.try_fold.result (λ i r q k. search rules) refl refl c.try_fold.ensures.ran
