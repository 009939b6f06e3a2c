use Rattle.std.proofs.Common.{◌≡◌, ℕ, List, length, take, is_ok, ap, ◌∙◌, arith}
use Rattle.formats.specs.Cuts.{cut_tag}
use Rattle.formats.specs.Limits.{most_tag_bytes}
use Rattle.formats.specs.Theorems.{Bytes}
use Rattle.racks.proofs.Fronts.{front_made, front_bytes, refilled}
use Rattle.racks.proofs.held.Held.front.Goals as goal

pub unwrap-len-requires : goal.unwrap-len-requires
unwrap-len-requires c =
    let small : Bytes c.args.tag.now = λ i. omega (arith, c.type_inv.tag i) in
    let out = c.deref_mut.result.now in
    let room : length out ≡ most_tag_bytes = ap length c.deref_mut.ensures.value ∙ c.from-bytes.ensures.1 in
    ap is_ok (front_made c.args.tag.now c.args.fields small c.requires.reads c.requires.odd c.requires.within out room c.cut.result c.cut.ensures.answer)

pub returns-clause-bytes : goal.returns-clause-bytes
returns-clause-bytes c =
    let bs = c.args.tag.now in
    let m = c.args.fields in
    let new = c.cut.new.out in
    let out = c.deref_mut.result.now in
    let small : Bytes bs = λ i. omega (arith, c.type_inv.tag i) in
    let room : length out ≡ most_tag_bytes = ap length c.deref_mut.ensures.value ∙ c.from-bytes.ensures.1 in
    let a = front_made bs m small c.requires.reads c.requires.odd c.requires.within out room c.cut.result c.cut.ensures.answer in
    let n : c.unwrap-len.result ≡ length (cut_tag bs m) = cc (a, c.unwrap-len.ensures) in
    let h = c.cut.auto.out in
    let k = refilled (length c.from-bytes.result.items) c.from-bytes.result.items new (h ∙ ap length c.deref_mut.ensures.value) in
    c.truncate.ensures.items ∙ ap (λ (x : List ℕ). take c.unwrap-len.result x) k ∙ ap (λ (x : ℕ). take x new) n ∙ front_bytes bs m small c.requires.reads c.requires.odd c.requires.within out room new c.cut.ensures.output
