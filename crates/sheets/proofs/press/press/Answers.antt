use Rattle.std.proofs.Common.{◌≡◌, length, Ok, sym, ap, ◌∙◌, arith}
use Rattle.rows.specs.Rows.{parents_in}
use Rattle.sheets.specs.Pressing.{measured, press_answer, press_output}
use Rattle.sheets.proofs.Promised.{kept}
use Rattle.sheets.proofs.press.press.Goals as goal

pub returns-clause-keeps : goal.returns-clause-keeps
returns-clause-keeps g c =
    let words = g.C.Code.words in
    let parent = g.H.Host.parents c.args.host.now in
    let n = c.in_ok-n.field-0 in
    let marks = c.fill-marks.result in
    let room = length c.args.out.now in
    let held = c.fill-marks.ensures.held in
    let code = c.fill-marks.ensures.same in
    let many : length marks.words.up.row.now ≡ n = omega arith in
    let same : measured (parents_in marks.words.up.row.now) (words marks.words.code.now) c.args.number (length marks.words.up.row.now) room ≡ measured parent (words c.args.code.now) c.args.number n room =
    λ i. measured (held i) (words (code i)) c.args.number (many i) room in
    let e : g.H.Host.verdicts c.args.host.now ≡ Ok n = sym c.in_ok-n.ensures in
    kept parent (words c.args.code.now) c.args.number n room (g.H.Host.verdicts c.args.host.now) c.args.out.now c.finish.new.out c.finish.result e
    (g.H.Host.laws c.args.host.now n e) (g.C.Code.laws c.args.code.now) (omega (arith, c.if-number-eq0.false)) (omega (arith, c.ranges.number.fits))
    (c.finish.ensures.told ∙ ap press_answer same) (c.finish.ensures.written ∙ ap (λ m. press_output m c.args.out.now) same)
