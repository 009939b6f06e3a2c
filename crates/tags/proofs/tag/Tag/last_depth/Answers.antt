use Rattle.std.proofs.Common.{◌/◌, sym, ap, ◌∙◌}
use Rattle.formats.specs.Layout.{depth_at}
use Rattle.formats.proofs.Answering.{depth_whole}
use Rattle.tags.proofs.tag.Tag.last_depth.Goals as goal

pub returns-clause-reads : goal.returns-clause-reads
returns-clause-reads c =
    c.depth_of.ensures
    ∙ ap (λ k. depth_at c.args.self.now.bytes.now (k / 2)) c.count.ensures
    ∙ sym (depth_whole c.args.self.now.bytes.now c.args.self.now.readable)
