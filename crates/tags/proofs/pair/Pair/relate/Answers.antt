use Rattle.std.proofs.Common.{◌≡◌, ℕ, ◌+◌, ◌-◌, ◌*◌, Some, Option, sym, refl, ◌∙◌, subst, arith}
use lib.IntN.{sub_ℕ}
use Rattle.std.specs.Option.{IsSome}
use Rattle.tags.proofs.Paired.{depth_by, depth_there, depth_fits, related_by, exact_by}
use Rattle.tags.proofs.pair.Pair.relate.Goals as goal
use Rattle.tags.proofs.pair.Pair.relate.Goals.{After-last_depth-2}

pub unwrap-shared-requires : goal.unwrap-shared-requires
unwrap-shared-requires c =
    subst IsSome (sym (c.depth.ensures ∙ depth_there c.args.self.now c.cover-cover.result c.cover-cover.ensures c.of.result c.of.ensures)) refl

one : (o : Option ℕ) (m n : ℕ) → o ≡ Some m → o ≡ Some n → m ≡ n
one o m n e f = cc

shared : (c : After-last_depth-2) → c.unwrap-shared.result ≡ depth_by c.args.self.now c.cover-cover.result c.cover-cover.ensures
shared c =
    one c.depth.result _ _ c.unwrap-shared.ensures (c.depth.ensures ∙ depth_there c.args.self.now c.cover-cover.result c.cover-cover.ensures c.of.result c.of.ensures)

pub measured-requires : goal.measured-requires
measured-requires c =
    omega (arith, shared (goal.at.measured-requires c).After-last_depth-2, c.last_depth.ensures.value, c.last_depth-2.ensures.value, depth_fits c.args.self.now c.cover-cover.result c.cover-cover.ensures)

pub returns : goal.returns
returns c =
    let s = shared (goal.at.returns c).After-last_depth-2 in
    let d = c.last_depth.ensures.value in
    let e = c.last_depth-2.ensures.value in
    let u = c.measured.ensures.relation ∙ c.relation.ensures in
    let v = c.measured.ensures.deeper ∙ (λ i. sub_ℕ (e i) (d i)) in
    let w = c.measured.ensures.steps ∙ (λ i. d i + e i - 2 * s i) in
    record {
      answer = related_by c.args.self.now c.cover-cover.result c.cover-cover.ensures c.measured.result u v w;
      exact = exact_by c.args.self.now c.cover-cover.result c.cover-cover.ensures c.measured.result u v w;
    }
