use Rattle.std.proofs.Common.{List, ℕ, ap, ◌∙◌}
use Rattle.histories.specs.Model.{started, put}
use Rattle.racks.specs.declared.place.Place.TheVariants.{Started}
use Rattle.racks.specs.Views.{state_of, started_of}
use Rattle.racks.proofs.Rows.{stored, added}
use Rattle.racks.proofs.rack.Rack.add.Goals as goal

pub returns-clause-leaves : goal.returns-clause-leaves
returns-clause-leaves c =
    let r = c.args.self.now in
    let t = started_of c.args.ticket.now in
    let held = c.in_ok-held.ensures in
    let cover = c.in_ok-cover.ensures in
    stored r t.place (Started c.in_ok-cover.cover)
    ∙ ap (λ (h : List ℕ). put (state_of r) t.place (started h)) cover.1
    ∙ added (state_of r) t _ c.args.tag.now held.0 held.1 held.2 cover.0
