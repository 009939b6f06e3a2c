use Rattle.std.proofs.Common.{◌≡◌, ℕ, ◌<◌, length}
use Rattle.rows.specs.Chains.{at}
use Rattle.formats.specs.Label.{body_in}
use Rattle.rows.specs.Rows.{row_label}
use Rattle.rows.proofs.marks.counts.Given as goal

abbrev pub invariant-loop-v : goal.invariant-loop-v
invariant-loop-v g l =
    ((w : ℕ) → w < l.v → at l.bits w ≡ length (body_in (row_label (g.C.Code.words l.words.code.now) l.words.up.row.now w)))
    × ((w : ℕ) → w < l.v → at l.fields w ≡ length (row_label (g.C.Code.words l.words.code.now) l.words.up.row.now w))
