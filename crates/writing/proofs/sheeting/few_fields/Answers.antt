use Rattle.std.proofs.Common.{leb, length, ap, ◌∙◌, arith, rules, tests}
use Rattle.std.proofs.lemmas.Iterator.{YieldsList-from_slice}
use Rattle.std.proofs.lemmas.Iterator.Search.{all_from_yields_List}
use Rattle.formats.specs.Limits.{most_fields}
use Rattle.formats.specs.Layout.{all_below}
use Rattle.labels.specs.Labels.{label}
use Rattle.rows.specs.Rows.{parents_in}
use Rattle.writing.proofs.Sheeted.{all_rows, label_count}
use Rattle.writing.proofs.sheeting.few_fields.Goals as goal

pub returns : goal.returns
returns g c =
    let m = c.args.marks.now in
    let f = g.C.Code.words m.words.code.now in
    let up = m.words.up.row.now in
    let by_call = all_from_yields_List (λ k. leb k most_fields) _ _ c.all.result c.all.ensures.ran (YieldsList-from_slice m.fields.now cc) (λ x b q k. search (rules, tests)) in
    by_call
    ∙ all_rows (λ k. leb k most_fields) m.fields.now (λ v. leb (length (label (parents_in up) (length up) f v)) most_fields) (λ v l. ap (λ k. leb k most_fields) (label_count f up m.fields.now v (m.numbered v (omega (arith, m.fieldses)))))
    ∙ ap (all_below (λ v. leb (length (label (parents_in up) (length up) f v)) most_fields)) m.fieldses
