use Rattle.std.proofs.Common.{sym, ◌∙◌}
use Rattle.racks.specs.declared.place.Place.TheVariants.{Started}
use Rattle.racks.proofs.Rows.{stored}
use Rattle.racks.proofs.rack.Rack.start.Goals as goal

pub returns-in-Ok-clause-leaves : goal.returns-in-Ok-clause-leaves
returns-in-Ok-clause-leaves c =
    let r = c.args.self.now in
    stored r c.args.ticket.place (Started c.in-Ok.held) ∙ sym c.in-Ok.ensures.1
