use Rattle.std.proofs.Common.{ap, ◌∙◌, sym}
use Rattle.std.proofs.lemmas.Result.{err_from_is_err_and}
use Rattle.formats.specs.Layout.{tree_of}
use Rattle.racks.proofs.Verdicts.{start_in_tag, start_other, start_fine}
use Rattle.racks.proofs.held.Held.first.Goals as goal

pub returns-in_err-read : goal.returns-in_err-read
returns-in_err-read c =
    let p = err_from_is_err_and c.from_residual.result c.from_residual.ensures.1 in
    rw (p.1, p.2) (start_in_tag c.args.tree c.args.tag.now _ c.in_err-read.ensures.told)

pub returns-then-tree_number-tree : goal.returns-then-tree_number-tree
returns-then-tree_number-tree c =
    let r = c.in_ok-read.ensures.told in
    start_other c.args.tree c.args.tag.now r.0 (λ e. c.if-tree_number-tree.true (c.tree_number.ensures ∙ ap tree_of r.1 ∙ e))

pub returns : goal.returns
returns c =
    let r = c.in_ok-read.ensures.told in
    let t = sym (ap tree_of r.1) ∙ sym c.tree_number.ensures ∙ c.if-tree_number-tree.false in
    let b = rw c.unwrap-bytes.ensures at c.try_from.ensures in
    (start_fine c.args.tree c.args.tag.now r.0 t, b.0, ap tree_of b.0 ∙ t)
