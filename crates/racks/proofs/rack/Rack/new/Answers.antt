use Rattle.std.proofs.Common.{◌≡◌, ℕ, ◌<◌, get_or, rules, arith}
use Rattle.histories.proofs.Whole.{promised}
use Rattle.histories.specs.Model.{place_count}
use Rattle.racks.specs.declared.place.Place.TheVariants.{Empty}
use Rattle.racks.proofs.Rows.{empty_is}
use Rattle.racks.proofs.rack.Rack.new.Goals as goal

pub returns-clause-made : goal.returns-clause-made
returns-clause-made c =
    let e : (i : ℕ) → i < place_count → get_or c.from_fn.result i Empty ≡ Empty = λ i h. let k = c.from_fn.ensures.items.at i Empty h in search rules in
    empty_is c.args.rack_number c.args.tree_number c.from_fn.result c.from_fn.ensures.items.long e

pub returns-clause-promises : goal.returns-clause-promises
returns-clause-promises c = promised c.args.rack_number c.args.tree_number (omega arith)
