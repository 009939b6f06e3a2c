use Rattle.std.proofs.Common.{◌≡◌, ℕ, [], ◌∷◌, ◌++◌, length, set, sym, ap, ◌∙◌, arith, rules}
use Rattle.std.specs.List.{flat_map}
use Rattle.formats.specs.Label.{depths_in, body_in}
use Rattle.formats.specs.Models.{two}
use Rattle.formats.specs.Words.{pack}
use Rattle.formats.proofs.Written.{length_two}
use Rattle.rows.specs.Chains.{at}
use Rattle.rows.specs.Rows.{row_label}
use Rattle.writing.specs.Tags.{ends_at, row_tag}
use Rattle.writing.specs.Bits.{unpacked}
use Rattle.writing.proofs.Puts.{then, wrote_two, wrote_set, wrote_all}
use Rattle.writing.proofs.Packing.{after_fits, over_clear, packs, zero_bits}
use Rattle.writing.proofs.Tagged.{length_ends, twice_depths, tag_long, tag_parts}
use Rattle.writing.proofs.tagging.put_tag.Goals as goal

pub put_label-requires-clause-clear : goal.put_label-requires-clause-clear
put_label-requires-clause-clear g c = zero_bits c.fill.new.self (λ i h. search rules)

pub returns : goal.returns
unfolding row_tag
returns g c =
    let m = c.args.marks.now in
    let f = g.C.Code.words m.words.code.now in
    let up = m.words.up.row.now in
    let l = row_label f up c.args.v in
    let k = m.numbered c.args.v c.requires.inside in
    let b = m.counted c.args.v c.requires.inside in
    let long = tag_long f up m.words.up.rooted c.args.v c.requires.inside c.args.number in
    let twice = twice_depths f up m.words.up.rooted c.args.v c.requires.inside in
    let long_ends = length_two (ends_at l) in
    let many_ends = length_ends l in
    let long_depths = length_two (depths_in l) in
    let head : set c.put.new.out 2 (at m.fields.now c.args.v) ≡ two c.args.number ++ (length l ∷ []) =
    wrote_all (then (wrote_two c.args.number (omega arith) c.to_le_bytes.ensures c.put.ensures) (wrote_set 2 (at m.fields.now c.args.v) c.put.new.out (omega arith)) (omega arith)) (omega arith)
    ∙ ap (λ (x : ℕ). two c.args.number ++ (x ∷ [])) k in
    let ends : c.put_label.new.ends ≡ flat_map two (ends_at l) = wrote_all c.put_label.ensures.ends (omega arith) in
    let depths : c.put_label.new.depths ≡ flat_map two (depths_in l) = wrote_all c.put_label.ensures.depths (omega arith) in
    let body : c.put_label.new.body ≡ pack (body_in l) =
    packs c.put_label.new.body (body_in l) (omega (arith, c.requires.room)) (after_fits c.put_label.new.depths c.put_label.new.body (after_fits c.put_label.new.ends (c.put_label.new.depths ++ c.put_label.new.body) (after_fits (set c.put.new.out 2 (at m.fields.now c.args.v)) (c.put_label.new.ends ++ (c.put_label.new.depths ++ c.put_label.new.body)) (λ i. omega (arith, c.type_inv.out i)))))
    (over_clear (body_in l) (unpacked c.fill.new.self) (unpacked c.put_label.new.body) c.put_label.ensures.body (zero_bits c.fill.new.self (λ i h. search rules))) in
    (λ i. head i ++ (ends i ++ (depths i ++ body i))) ∙ sym (tag_parts c.args.number l)
