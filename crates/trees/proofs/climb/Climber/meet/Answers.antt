use Rattle.std.proofs.Common.{◌≡◌, ◌<◌, subst, sym, ap, ◌∙◌, rules, refl}
use Rattle.std.proofs.iter.Yields as gives
use Rattle.std.proofs.lemmas.Fn.{fold_over, slice_gives, fronts}
use Rattle.trees.specs.Deepest.{meet_of, meet_all}
use Rattle.trees.proofs.Answering.{next_node}
use Rattle.trees.proofs.Meet.{meet_push}
use Rattle.trees.proofs.climb.Climber.meet.Goals as goal

pub fold-requires-clause-callable : goal.fold-requires-clause-callable
fold-requires-clause-callable g c =
    let n = c.args.self.now.count in
    gives.serves_by _ (λ xs q. (q.0.0.now.count ≡ n) × (q.1 < n))
    (λ xs q x v j r. search rules)
    _ _ _ _ (refl, c.requires.node)
    (λ xs t q x u y e j. let k = next_node n _ t u xs x (rw c.iter.ensures.rest c.requires.nodes) y e in search rules)

pub returns : goal.returns
unfolding meet_all
returns g c =
    let p = g.H.Host.parents c.args.self.now.host.now in
    subst (λ l. c.fold.result ≡ meet_all p c.args.first l) c.iter.ensures.rest
    (fold_over fronts (λ y. y.now) _ (λ ys d. d ≡ meet_all p c.args.first ys) _
    (λ ys a x b f' j k.
    let m : b ≡ meet_of p a x.now = search rules in
    (m ∙ (ap (λ d. meet_of p d x.now) j ∙ sym (meet_push p c.args.first ys x.now)), search rules))
    _ _ _ _ (slice_gives c.iter.result) refl c.fold.ensures.ran)
