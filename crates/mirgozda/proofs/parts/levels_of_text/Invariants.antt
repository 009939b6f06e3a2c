use Rattle.std.proofs.Common.{◌≡◌, length, drop, vec_items}
use Rattle.std.specs.List.{slice_split}
use Rattle.texts.specs.PartsList.{list_levels}
use Rattle.mirgozda.proofs.Levels.{is_feed, after, levels_in}
use Rattle.mirgozda.proofs.parts.levels_of_text.Given as goal

abbrev pub invariant-loop-line : goal.invariant-loop-line
invariant-loop-line l = after (vec_items l.all) (levels_in (drop (length l.yielded) (slice_split is_feed l.text))) ≡ list_levels l.text
