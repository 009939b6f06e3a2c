use Rattle.std.proofs.Common.{rules, ◌≡◌, suc, ◌-◌, ◌<◌, false, length, ℕ, sym, ◌∙◌}
use Rattle.trees.specs.Indented.{misplaced}
use Rattle.trees.proofs.Lines.{none_misplaced, first_found}
use Rattle.trees.proofs.indented.misplaced_line.Goals as goal

pub returns-in_err-before : goal.returns-in_err-before
returns-in_err-before c =
    let xs = c.args.levels.now in
    let none : (k : ℕ) → k < length xs - 1 → misplaced xs (suc k) ≡ false = search rules in
    c.from_residual.ensures ∙ sym (none_misplaced xs (length xs - 1) none)

pub returns : goal.returns
returns c =
    let xs = c.args.levels.now in
    first_found xs (length xs - 1) c.in_ok-before.before (search rules) (search rules) (search rules)
