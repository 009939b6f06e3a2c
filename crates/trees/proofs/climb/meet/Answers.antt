use Rattle.std.proofs.Common.{◌≡◌, ℕ, ◌∷◌, subst}
use Rattle.trees.specs.Deepest.{Deepest}
use Rattle.trees.proofs.Meet.{deepest, one}
use Rattle.trees.proofs.climb.meet.Goals as goal

pub returns-clause-deepest : goal.returns-clause-deepest
returns-clause-deepest g c =
    let k = c.in_ok-climber.climber in
    let t = g.H.Host.laws k.host.now k.count k.tree in
    subst (λ h. Deepest (g.H.Host.parents h) (c.args.first ∷ c.args.others.now) c.meet-node.result) c.in_ok-climber.ensures
    (deepest t c.args.first c.args.others.now c.meet-node.result c.in_ok-check.ensures c.in_ok-check-2.ensures c.meet-node.ensures)

pub returns-clause-only : goal.returns-clause-only
returns-clause-only g c =
    let k = c.in_ok-climber.climber in
    let t = g.H.Host.laws k.host.now k.count k.tree in
    subst (λ h. (d : ℕ) → Deepest (g.H.Host.parents h) (c.args.first ∷ c.args.others.now) d → d ≡ c.meet-node.result) c.in_ok-climber.ensures
    (λ d h. one t _ d _ h (deepest t c.args.first c.args.others.now c.meet-node.result c.in_ok-check.ensures c.in_ok-check-2.ensures c.meet-node.ensures))
