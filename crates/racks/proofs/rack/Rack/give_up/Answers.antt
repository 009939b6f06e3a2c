use Rattle.std.proofs.Common.{sym, ◌∙◌}
use Rattle.racks.specs.declared.place.Place.TheVariants.{Empty}
use Rattle.racks.specs.Views.{state_of, named}
use Rattle.racks.proofs.Rows.{stored, abandoned}
use Rattle.racks.proofs.rack.Rack.give_up.Goals as goal

pub returns-then-fits-clause-leaves : goal.returns-then-fits-clause-leaves
returns-then-fits-clause-leaves g c =
    let r = c.args.self.now in
    let t = c.args.ticket in
    stored r t.place Empty ∙ abandoned (state_of r) (named g.S.Stage.stage t) (sym c.fits-fits.ensures ∙ c.if-fits.true)
