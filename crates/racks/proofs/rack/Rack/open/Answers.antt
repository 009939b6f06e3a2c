use Rattle.std.proofs.Common.{◌∙◌, arith}
use Rattle.std.proofs.lemmas.Grind.{common_steps}
use Rattle.racks.specs.declared.place.Place.TheVariants.{Opened}
use Rattle.racks.proofs.Rows.{stored}
use Rattle.racks.proofs.rack.Rack.open.Goals as goal

pub returns-clause-leaves : goal.returns-clause-leaves
returns-clause-leaves c =
    let r = c.args.self.now in
    stored r c.args.place Opened ∙ grind (arith, common_steps)
