use Rattle.std.proofs.Common.{◌≤◌, length, sym, ap, ◌∙◌, arith}
use Rattle.labels.specs.Sheet.{sheet}
use Rattle.rows.specs.Rows.{parents_in}
use Rattle.sheets.specs.Pressing.{press_output}
use Rattle.sheets.proofs.Pressed.{at_front, roomy}
use Rattle.sheets.proofs.press.finish.Goals as goal

pub returns-clause-written : goal.returns-clause-written
returns-clause-written g c =
    let marks = c.args.marks.now in
    let f = g.C.Code.words marks.words.code.now in
    let up = marks.words.up.row.now in
    let long = c.measure-needed.ensures c.args.number in
    let fits : length (sheet (parents_in up) (length up) f c.args.number) ≤ length c.args.out.now = omega (arith, c.if-out-needed.false) in
    at_front c.put_sheet.ensures ∙ sym (ap (λ a. press_output a c.args.out.now) (roomy (parents_in up) f c.args.number (length up) (length c.args.out.now) c.if-not-few_fields.ensures fits))
