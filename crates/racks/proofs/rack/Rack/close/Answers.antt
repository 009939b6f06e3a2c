use Rattle.std.proofs.Common.{length, ◌∙◌}
use Rattle.racks.specs.declared.place.Place.TheVariants.{Empty}
use Rattle.racks.specs.Views.{state_of, started_of}
use Rattle.racks.proofs.Rows.{stored, closed}
use Rattle.racks.proofs.rack.Rack.close.Goals as goal

pub returns-in-Ok-clause-leaves : goal.returns-in-Ok-clause-leaves
returns-in-Ok-clause-leaves c =
    let r = c.args.self.now in
    let t = started_of c.args.ticket in
    stored r t.place Empty ∙ closed (state_of r) t _ (length c.args.out.now) _ _ c.in-Ok.ensures.answers
