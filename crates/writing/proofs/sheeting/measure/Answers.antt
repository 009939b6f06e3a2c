use Rattle.std.proofs.Common.{◌≡◌, ℕ, ◌*◌, ◌≤◌, length, refl, ◌∙◌, arith, rules, tests}
use Rattle.std.proofs.lemmas.Iterator.{YieldsList-from_map, YieldsList-from_range}
use Rattle.std.proofs.lemmas.Iterator.Consumers.{YieldsList-at, fits_from_yields_list, sum_from_yields_List}
use Rattle.formats.specs.Limits.{most_tag_bytes}
use Rattle.writing.specs.Tags.{row_tag}
use Rattle.writing.specs.Sheets.{tags_to}
use Rattle.writing.proofs.Tagged.{tag_long, tag_small}
use Rattle.writing.proofs.Sheeted.{sheet_long, sizes_sum, sizes_small}
use Rattle.writing.proofs.sheeting.measure.Goals as goal
use Rattle.writing.proofs.sheeting.measure.Goals.{Start, After-sum}

-- all tags of a sheet together are small
small : (g : _) (c : Start g) → length (tags_to (g.C.Code.words c.args.marks.now.words.code.now) c.args.marks.now.words.up.row.now 0 (length c.args.marks.now.words.up.row.now)) ≤ most_tag_bytes * length c.args.marks.now.words.up.row.now
small g c =
    let m = c.args.marks.now in
    let f = g.C.Code.words m.words.code.now in
    let up = m.words.up.row.now in
    sizes_small f up 0
    (λ v l. omega (arith, tag_long f up m.words.up.rooted v l 0, tag_small f up m.words.up.rooted v l (g.C.Code.laws m.words.code.now)))
    (length up) (omega arith)

pub sum-requires-clause-fits : goal.sum-requires-clause-fits
sum-requires-clause-fits g c =
    let f = g.C.Code.words c.args.marks.now.words.code.now in
    let up = c.args.marks.now.words.up.row.now in
    let n = length up in
    let few = c.args.marks.now.words.up.rooted.few in
    let total = sizes_sum f up 0 n in
    let most = small g (goal.at.sum-requires-clause-fits g c).Start in
    fits_from_yields_list c.map.result _
    (YieldsList-from_map _ (λ v. length (row_tag f up 0 v)) (YieldsList-at c.map.ensures.source (YieldsList-from_range 0 n n refl (omega arith))) c.map.ensures.closure (λ x r q k. search (rules, tests)))
    (omega arith)

-- the sum is that of the sizes of all tags
total : (g : _) (c : After-sum g) (number : ℕ) → c.sum.result ≡ length (tags_to (g.C.Code.words c.args.marks.now.words.code.now) c.args.marks.now.words.up.row.now number (length c.args.marks.now.words.up.row.now))
total g c number =
    let f = g.C.Code.words c.args.marks.now.words.code.now in
    let up = c.args.marks.now.words.up.row.now in
    let n = length up in
    sum_from_yields_List c.map.result c.sum.result c.sum.ensures.ran
    (YieldsList-from_map _ (λ v. length (row_tag f up number v)) (YieldsList-at c.map.ensures.source (YieldsList-from_range 0 n n refl (omega arith))) c.map.ensures.closure (λ x r q k. search (rules, tests)))
    ∙ sizes_sum f up number n

pub overflow_add-result : goal.overflow_add-result
overflow_add-result g c = omega (arith, total g c 0, small g (goal.at.overflow_add-result g c).Start, c.header.ensures, c.args.marks.now.words.up.rooted.few)

pub returns : goal.returns
returns g c number =
    let f = g.C.Code.words c.args.marks.now.words.code.now in
    let up = c.args.marks.now.words.up.row.now in
    omega (arith, total g c number, sheet_long f up number, c.header.ensures)
