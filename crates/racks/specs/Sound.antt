-- Each tag that a rack holds is of the rack's tree number.
use Rattle.std.specs.Prelude.{◌≡◌, ℕ, Bool, true, List, ◌==◌, slice_index_or}
use Rattle.formats.specs.Layout.{tree_of}
use Rattle.racks.specs.declared.held.Held.{Held}
use Rattle.racks.specs.declared.place.Place.{Place}
use Rattle.racks.specs.declared.place.Place.TheVariants.{Empty, Opened, Started}

-- the tag that is held
abbrev pub held_bytes : Held → List ℕ
held_bytes h = h.bytes.items

abbrev pub of_tree : ℕ → Place → Bool
of_tree tree Empty = true
of_tree tree Opened = true
of_tree tree (Started h) = tree_of (held_bytes h) == tree

abbrev pub Sound : ℕ → List Place → Type 0
Sound tree ps = (k : ℕ) → of_tree tree (slice_index_or ps k Empty) ≡ true
