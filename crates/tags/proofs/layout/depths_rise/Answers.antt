use Rattle.std.proofs.Common.{refl, ◌∙◌, rules}
use Rattle.formats.specs.Layout.{least_at, depth_fine}
use Rattle.tags.proofs.Carried.{all_carried}
use Rattle.tags.proofs.layout.depths_rise.Goals as goal

pub returns : goal.returns
returns c =
    c.is_some.ensures
    ∙ all_carried _ _ _ (depth_fine c.args.bytes.now) (least_at c.args.bytes.now) c.args.n _ _ c.try_fold.result (λ i r q k. search rules) refl refl c.try_fold.ensures.ran
