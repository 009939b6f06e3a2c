use Rattle.std.proofs.Common.{ℕ, List, ap, ◌∙◌}
use Rattle.std.proofs.lemmas.Result.{err_from_is_err_and}
use Rattle.formats.specs.Cuts.{cut_tag}
use Rattle.formats.specs.Layout.{tree_of}
use Rattle.formats.specs.Pairs.{side_of}
use Rattle.racks.specs.Sound.{held_bytes}
use Rattle.racks.proofs.Verdicts.{join_refused, join_fine, join_bytes, join_tree, side_now, part_within}
use Rattle.racks.proofs.held.Held.joined_with.Goals as goal

pub returns-in_err-part : goal.returns-in_err-part
returns-in_err-part c =
    let p = err_from_is_err_and c.from_residual.result c.from_residual.ensures.1 in
    let h = held_bytes c.args.self.now in
    let f = c.args.self.now.reads in
    rw (p.1, p.2) (join_refused h c.args.tag.now f _ (rw c.tag-held.ensures at c.in_err-part.ensures.answer))

pub front-requires-clause-within : goal.front-requires-clause-within
front-requires-clause-within c =
    let g = c.tag-held.result.now in
    let b = c.args.tag.now in
    let p = c.in_ok-part.part in
    let s = side_now p.side _ _ _ c.of.ensures in
    rw s (part_within g b p c.in_ok-part.ensures.shared)

pub returns : goal.returns
returns c =
    let h = held_bytes c.args.self.now in
    let b = c.args.tag.now in
    let p = c.in_ok-part.part in
    let f = c.args.self.now.reads in
    let a = rw c.tag-held.ensures at c.in_ok-part.ensures.answer in
    let s = side_now p.side _ _ _ c.of.ensures ∙ ap (λ (x : List ℕ). side_of p.side x b) c.tag-held.ensures in (
      join_fine h b f p a,
      c.front.ensures.bytes ∙ ap (λ (x : List ℕ). cut_tag x p.fields) s ∙ join_bytes h b f p a,
      c.front.ensures.tree ∙ ap tree_of s ∙ join_tree h b f p a,
    )
