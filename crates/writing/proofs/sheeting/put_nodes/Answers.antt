use Rattle.std.proofs.Common.{◌≡◌, ℕ, ◌+◌, ◌-◌, ◌*◌, List, length, sym, refl, ap, subst, arith}
use Rattle.writing.specs.Writes.{Wrote}
use Rattle.writing.specs.Tags.{row_tag}
use Rattle.writing.specs.Sheets.{offsets_to}
use Rattle.writing.proofs.Puts.{wrote_nil, wrote_part, wrote_four}
use Rattle.writing.proofs.Sheeted.{offset_is, no_offsets, no_tags, tags_longer, tags_sum, put_offset, put_next}
use Rattle.writing.proofs.sheeting.put_nodes.Goals as goal

pub loop-v-init : goal.loop-v-init
loop-v-init g c =
    let f = g.C.Code.words c.args.marks.now.words.code.now in
    let up = c.args.marks.now.words.up.row.now in
    let offsets = c.args.offsets.now in
    let tags = c.args.tags.now in
    record {
      sum = ap (λ (bs : List ℕ). length bs) (sym (no_tags f up c.args.number));
      small = omega arith;
      offsets = subst (λ (ws : List ℕ). Wrote 0 ws offsets offsets) (sym (no_offsets f up c.args.number)) (wrote_nil 0 offsets (omega arith));
      tags = subst (λ (ws : List ℕ). Wrote 0 ws tags tags) (sym (no_tags f up c.args.number)) (wrote_nil 0 tags (omega arith));
    }

pub loop-v-preserved : goal.loop-v-preserved
loop-v-preserved g c =
    let f = g.C.Code.words c.args.marks.now.words.code.now in
    let up = c.args.marks.now.words.up.row.now in
    let v = c.loop-v.v in
    let end = c.loop-v.end in
    let size = c.tag_size-end.ensures.is c.args.number in
    let begin = offset_is f up c.args.number v in
    let few = c.args.marks.now.words.up.rooted.few in
    let sum = tags_sum f up c.args.number v in
    let longer = tags_longer f up c.args.number (length up) (v + 1) (omega arith) in
    let room = c.requires.tags_room in
    record {
      sum = omega (arith, c.loop-v.invariant.sum);
      small = omega (arith, c.loop-v.invariant.small, c.tag_size-end.ensures.small);
      offsets = put_offset f up c.args.number v (c.header-first.result + end) (4 * v) (omega arith) refl c.loop-v.invariant.offsets (wrote_four (c.header-first.result + end) (omega arith) c.to_le_bytes.ensures c.put.ensures);
      tags = put_next f up c.args.number v end c.loop-v.invariant.sum c.loop-v.invariant.tags (wrote_part end (end + c.tag_size-end.result - end) (row_tag f up c.args.number v) c.loop-v.tags c.put_tag.new.out c.put_tag.ensures (omega arith) (omega arith));
    }

pub returns-clause-offsets : goal.returns-clause-offsets
returns-clause-offsets g c =
    let f = g.C.Code.words c.args.marks.now.words.code.now in
    let up = c.args.marks.now.words.up.row.now in
    let v = c.loop-v.v in
    let e : v ≡ length up = omega arith in
    let begin = offset_is f up c.args.number v in
    let few = c.args.marks.now.words.up.rooted.few in
    let first = c.header-first.ensures in
    let before = c.loop-v.invariant.sum in
    let most = c.loop-v.invariant.small in
    subst (λ (k : ℕ). Wrote 0 (offsets_to f up c.args.number (k + 1)) c.args.offsets.now c.put-2.new.out) e
    (put_offset f up c.args.number v (c.header-first.result + c.loop-v.end) (4 * length up) (omega arith) (omega arith) c.loop-v.invariant.offsets (wrote_four (c.header-first.result + c.loop-v.end) (omega arith) c.to_le_bytes-2.ensures c.put-2.ensures))
