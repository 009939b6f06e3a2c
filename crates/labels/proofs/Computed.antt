-- The small tree, computed.
use Rattle.std.proofs.Common.{◌≡◌, ℕ, zero, suc, ◌<◌, ◌≤◌, Some, None, refl, arith}
use Rattle.trees.specs.Tree.{Tree}
use Rattle.trees.specs.Above.{climb, rise, depth_of, is_above}
use Rattle.formats.specs.Models.{tag_bytes}
use Rattle.formats.specs.Pairs.{same_word, zero_first, first_apart, nth_field, cover}
use Rattle.labels.specs.Sizes.{sum_to, those, is_child, size, better, heavy_to, heavy, is_heavy, is_light, light_children, light_size}
use Rattle.labels.specs.Paths.{top, place, path_from, heavy_path}
use Rattle.labels.specs.Labels.{path_weights, branch_weights, turn, path_word, branch_word, path_field, branch_field, label_in, label}
use Rattle.labels.specs.Sheet.{tag, offset, sheet}
use Rattle.labels.specs.Small.{Table, small_parent}

inner : (v : ℕ) → 1 ≤ v → v < 6 → (p : ℕ) × (small_parent v ≡ Some p) × (p < v)
inner zero h l = absurd (omega arith)
inner (suc zero) h l = (0, refl, omega arith)
inner (suc (suc zero)) h l = (1, refl, omega arith)
inner (suc (suc (suc zero))) h l = (1, refl, omega arith)
inner (suc (suc (suc (suc zero)))) h l = (0, refl, omega arith)
inner (suc (suc (suc (suc (suc zero))))) h l = (4, refl, omega arith)
inner (suc (suc (suc (suc (suc (suc v)))))) h l = absurd (omega arith)

outer : (v : ℕ) → 6 ≤ v → small_parent v ≡ None
outer zero h = absurd (omega arith)
outer (suc zero) h = absurd (omega arith)
outer (suc (suc zero)) h = absurd (omega arith)
outer (suc (suc (suc zero))) h = absurd (omega arith)
outer (suc (suc (suc (suc zero)))) h = absurd (omega arith)
outer (suc (suc (suc (suc (suc zero))))) h = absurd (omega arith)
outer (suc (suc (suc (suc (suc (suc v)))))) h = refl

is_tree : Tree small_parent 6
is_tree = record { some_node = omega arith; few = omega arith; root = refl; inner = inner; outer = outer }

pub table : Table
unfolding climb rise depth_of is_above tag_bytes same_word zero_first first_apart nth_field cover sum_to those is_child size better heavy_to heavy is_heavy is_light light_children light_size top place path_from heavy_path path_weights branch_weights turn path_word branch_word path_field branch_field label_in label tag offset sheet
table = record {
  is_tree = is_tree;
  sizes = refl;
  heavies = refl;
  lights = refl;
  of_0 = refl;
  of_1 = refl;
  of_2 = refl;
  of_3 = refl;
  of_4 = refl;
  of_5 = refl;
  of_3_and_5 = refl;
  of_2_and_3 = refl;
  tag_5 = refl;
  offsets = refl;
  header = refl;
  bytes = refl;
}
