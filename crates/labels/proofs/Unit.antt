-- The table of the small unit, computed.
use Rattle.std.proofs.Common.{refl}
use Rattle.trees.specs.Above.{climb, rise, depth_of, is_above}
use Rattle.trees.specs.Deepest.{meet_of}
use Rattle.formats.specs.Faults.{tag_fault}
use Rattle.formats.specs.Models.{tag_bytes}
use Rattle.formats.specs.Pairs.{same_word, lead, zero_first, begins, first_apart, nth_field, two_depths, clash, difference, cover, relation, last_depth, related}
use Rattle.labels.specs.Sizes.{sum_to, those, is_child, size, better, heavy_to, heavy, is_heavy, is_light, light_children, light_size}
use Rattle.labels.specs.Paths.{top, place, path_from, heavy_path}
use Rattle.labels.specs.Labels.{path_weights, branch_weights, turn, path_word, branch_word, path_field, branch_field, label_in, label}
use Rattle.labels.specs.Sheet.{tag, offset, sheet}
use Rattle.labels.specs.Unit.{WorkedOut}

pub worked_out : WorkedOut
unfolding climb rise depth_of is_above meet_of tag_fault tag_bytes same_word lead zero_first begins first_apart nth_field two_depths clash difference cover relation last_depth related sum_to those is_child size better heavy_to heavy is_heavy is_light light_children light_size top place path_from heavy_path path_weights branch_weights turn path_word branch_word path_field branch_field label_in label tag offset sheet
worked_out = refl
