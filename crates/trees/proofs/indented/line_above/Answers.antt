use Rattle.std.proofs.Common.{rules, ◌≡◌, ◌≢◌, ◌+◌, ◌<◌, ◌≤◌, ℕ, sym, ap, ◌∙◌, get_or, take, arith}
use Rattle.trees.specs.Indented.{nearest}
use Rattle.trees.proofs.Lines.{nearest_none, nearest_at, nearest-take}
use Rattle.trees.proofs.indented.line_above.Goals as goal

pub returns-in_err-above : goal.returns-in_err-above
returns-in_err-above c =
    let v = c.args.v in
    let l = get_or c.args.levels.now v 0 in
    let ys = c.iter.result.rest.now in
    let y : take v c.args.levels.now ≡ ys = search rules in
    let h : (k : ℕ) → 0 ≤ k → k < v → get_or ys k 0 + 1 ≢ l = search rules in
    c.from_residual.ensures ∙ (sym (nearest_none ys l v h) ∙ (ap (λ zs. nearest zs l v) (sym y) ∙ nearest-take c.args.levels.now l v v (omega arith)))

pub returns : goal.returns
returns c =
    let v = c.args.v in
    let l = get_or c.args.levels.now v 0 in
    let ys = c.iter.result.rest.now in
    let i = c.in_ok-above.above in
    let y : take v c.args.levels.now ≡ ys = search rules in
    let e : get_or ys i 0 + 1 ≡ l = search rules in
    let h : (k : ℕ) → i + 1 ≤ k → k < v → get_or ys k 0 + 1 ≢ l = search rules in
    sym (nearest_at ys l v i (search rules) e h) ∙ (ap (λ zs. nearest zs l v) (sym y) ∙ nearest-take c.args.levels.now l v v (omega arith))
