use Rattle.std.proofs.Common.{◌≡◌, ℕ, ◌+◌, List, ◌++◌, length, sym, subst, arith, length-append}
use Rattle.formats.specs.Models.{two}
use Rattle.writing.specs.Writes.{Wrote}
use Rattle.writing.specs.Sheets.{offsets_to, tags_to}
use Rattle.writing.proofs.Puts.{then, wrote_two, wrote_all, wrote_both}
use Rattle.writing.proofs.Sheeted.{sheet_long, sheet_parts, length_offsets}
use Rattle.writing.proofs.sheeting.put_sheet.Goals as goal

pub returns : goal.returns
returns g c =
    let f = g.C.Code.words c.args.marks.now.words.code.now in
    let up = c.args.marks.now.words.up.row.now in
    let n = length up in
    let few = c.args.marks.now.words.up.rooted.few in
    let offsets = offsets_to f up c.args.number (n + 1) in
    let tags = tags_to f up c.args.number n in
    let many = length_offsets f up c.args.number (n + 1) in
    let long = sheet_long f up c.args.number in
    let header = c.header.ensures in
    let front : c.put-2.new.out ≡ two c.args.number ++ two n =
    wrote_all (then (wrote_two c.args.number (omega arith) c.to_le_bytes.ensures c.put.ensures) (wrote_two n (omega arith) c.to_le_bytes-2.ensures c.put-2.ensures) (omega arith)) (omega arith) in
    let back : c.put_nodes.new.offsets ≡ offsets = wrote_all c.put_nodes.ensures.offsets (omega arith) in
    let head = length-append (two c.args.number ++ two n) offsets in
    let rest = subst (λ (xs : List ℕ). Wrote 0 tags xs c.put_nodes.new.tags) c.split_at_mut-head.ensures.back c.put_nodes.ensures.tags in
    let whole = wrote_both c.header.result ((two c.args.number ++ two n) ++ offsets) tags c.args.out.now c.put_nodes.new.tags (omega arith) (omega arith) rest in
    subst (λ (bs : List ℕ). Wrote 0 bs c.args.out.now (c.put-2.new.out ++ c.put_nodes.new.offsets ++ c.put_nodes.new.tags)) (sym (sheet_parts f up c.args.number))
    (subst (λ (ys : List ℕ). Wrote 0 (((two c.args.number ++ two n) ++ offsets) ++ tags) c.args.out.now ys) (λ i. sym front i ++ sym back i ++ c.put_nodes.new.tags) whole)
