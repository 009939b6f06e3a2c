use Rattle.std.proofs.Common.{◌≡◌, ℕ, length, None, Some, Option, sym, arith}
use Rattle.rows.proofs.Bridge.{rooted, same, more_stored}
use Rattle.rows.proofs.parents.gather.Goals as goal
use Rattle.rows.proofs.parents.gather.Goals.{in-Some, in_default}

not_both : {o : Option ℕ} {p : ℕ} → None ≡ o → o ≡ Some p → ⊥
not_both e f = cc

pub loop-v-preserved : goal.loop-v-preserved
loop-v-preserved g c =
    elim c.match-parent.branch [
      | in-Some w ↦ λ k a b. rw w.row-is (more_stored (g.H.Host.parents c.args.host.now) c.loop-v.row c.loop-v.v w.in-Some.p (sym w.in-Some.ensures) (omega arith) c.loop-v.invariant k a b)
      | in_default w ↦ λ k a b.
          let t = g.H.Host.laws c.args.host.now (length c.args.row.now) c.requires.tree in
          let i = t.inner c.loop-v.v (omega arith) (omega arith) in
          absurd (not_both {o = g.H.Host.parents c.args.host.now c.loop-v.v} w.in_default.ensures i.1)
    ]

pub invariant_of-result : goal.invariant_of-result
invariant_of-result g c =
    let t = g.H.Host.laws c.args.host.now (length c.args.row.now) c.requires.tree in
    record { rooted = rooted c.loop-v.row (length c.args.row.now) (g.H.Host.parents c.args.host.now) t (omega arith) (λ v a b. c.loop-v.invariant v a (omega arith)) }

pub returns-clause-held : goal.returns-clause-held
returns-clause-held g c =
    let t = g.H.Host.laws c.args.host.now (length c.args.row.now) c.requires.tree in
    same c.loop-v.row (length c.args.row.now) (g.H.Host.parents c.args.host.now) t (omega arith) (λ v a b. c.loop-v.invariant v a (omega arith))
