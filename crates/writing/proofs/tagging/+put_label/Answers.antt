use Rattle.std.proofs.Common.{ℕ, ◌-◌, ◌*◌, ◌++◌, Bool, false, List, length, sym, ap, ◌∙◌, subst, arith}
use Rattle.std.specs.List.{flat_map}
use Rattle.codes.specs.Words.{bits}
use Rattle.formats.specs.Label.{depths_in, body_in}
use Rattle.formats.specs.Models.{two}
use Rattle.formats.proofs.Written.{length_two}
use Rattle.labels.specs.Labels.{path_word}
use Rattle.rows.specs.Chains.{at}
use Rattle.rows.specs.Rows.{parents_in}
use Rattle.rows.proofs.Labelled.{few_bits, depth_low}
use Rattle.writing.specs.Bits.{unpacked}
use Rattle.writing.specs.Writes.{Wrote}
use Rattle.writing.specs.Tags.{ends_at}
use Rattle.writing.proofs.Puts.{then, wrote_two, getD_past_write}
use Rattle.writing.proofs.Tagged.{Begun, begun_none, begun_turned, length_ends, turned_fields, turned_bits, front_fields, front_bits, front_depths, ends_are, depths_are, body_is}
use Rattle.writing.proofs.tagging.+put_label.Goals as goal
use Rattle.writing.proofs.tagging.+put_label.Goals.{in-Some, in_default, In-Some, Joined-turn_at}

pub put_word-requires-clause-clear : goal.put_word-requires-clause-clear
put_word-requires-clause-clear g t c =
    let m = c.args.marks.now in
    let n = ap (λ w. w.len) c.path_word-word.ensures.is in
    let b = turned_bits (g.C.Code.words m.words.code.now) m.words.up.row.now m.words.up.rooted c.args.v c.requires.inside c.in-Some.turn.above c.in-Some.turn.word c.in-Some.ensures in
    let k = m.counted c.args.v c.requires.inside in
    λ j h. getD_past_write c.put_label.ensures.body j false (omega arith) ∙ c.requires.clear j

begun : (g : _) (t : ℕ) (c : Joined-turn_at g t) → Begun (g.C.Code.words c.args.marks.now.words.code.now) c.args.marks.now.words.up.row.now c.args.v c.args.ends.now c.args.depths.now c.args.body.now c.match-turn_at.ends c.match-turn_at.depths c.match-turn_at.body
begun g t c =
    let m = c.args.marks.now in
    let f = g.C.Code.words m.words.code.now in
    let up = m.words.up.row.now in
    let v = c.args.v in
    let n = ap (λ w. w.len) c.path_word-word.ensures.is in
    let most = few_bits up m.words.up.rooted f (g.C.Code.laws m.words.code.now) v c.requires.inside in
    let k = m.numbered v c.requires.inside in
    let b = m.counted v c.requires.inside in
    elim c.match-turn_at.branch [
      | in-Some w ↦
          let u = w.in-Some.turn.above in
          let x = w.in-Some.turn.word in
          let fields = turned_fields f up m.words.up.rooted v c.requires.inside u x w.in-Some.ensures in
          let body = turned_bits f up m.words.up.rooted v c.requires.inside u x w.in-Some.ensures in
          let end = at m.bits.now v - c.path_word-word.result.len in
          rw (w.ends-is, w.depths-is, w.body-is)
          (begun_turned f up v u x (2 * (at m.fields.now v - 1 - 1)) (at m.bits.now v - c.path_word-word.result.len - x.len) end w.put_label.new.body w.in-Some.ensures
          w.put_label.ensures.ends w.put_label.ensures.depths w.put_label.ensures.body (omega arith) (omega arith) (omega arith)
          (wrote_two end (omega arith) w.to_le_bytes.ensures w.put.ensures) w.put_word.ensures)
      | in_default w ↦ rw (w.ends-is, w.depths-is, w.body-is) (begun_none f up v c.args.ends.now c.args.depths.now c.args.body.now w.in_default.ensures)
    ]

pub put_word-requires-2-clause-clear : goal.put_word-requires-2-clause-clear
put_word-requires-2-clause-clear g t c =
    let m = c.args.marks.now in
    let b = begun g t (goal.at.put_word-requires-2-clause-clear g t c).Joined-turn_at in
    let n = ap (λ w. w.len) c.path_word-word.ensures.is in
    let fits = front_bits (g.C.Code.words m.words.code.now) m.words.up.row.now m.words.up.rooted c.args.v c.requires.inside b.front b.label in
    let k = m.counted c.args.v c.requires.inside in
    λ j h. getD_past_write b.body j false (omega arith) ∙ c.requires.clear j

pub returns : goal.returns
returns g t c =
    let m = c.args.marks.now in
    let f = g.C.Code.words m.words.code.now in
    let up = m.words.up.row.now in
    let v = c.args.v in
    let b = begun g t (goal.at.returns g t c).Joined-turn_at in
    let word = path_word (parents_in up) (length up) f v in
    let n = ap (λ w. w.len) c.path_word-word.ensures.is in
    let fits = front_bits f up m.words.up.rooted v c.requires.inside b.front b.label in
    let fields = front_fields f up m.words.up.rooted v c.requires.inside b.front b.label in
    let depths = front_depths f up m.words.up.rooted v c.requires.inside b.front b.label in
    let long_ends = length_two (ends_at b.front) in
    let many_ends = length_ends b.front in
    let long_depths = length_two (depths_in b.front) in
    let most = few_bits up m.words.up.rooted f (g.C.Code.laws m.words.code.now) v c.requires.inside in
    let low = depth_low up m.words.up.rooted v in
    let k = m.numbered v c.requires.inside in
    let e = m.counted v c.requires.inside in
    let d = m.deep v c.requires.inside in
    let few = m.words.up.rooted.few in
    record {
      ends =
          subst (λ (ws : List ℕ). Wrote 0 ws c.args.ends.now c.put-2.new.out) (ap (λ (x : ℕ). flat_map two (ends_at b.front) ++ two x) e ∙ sym (ends_are f up m.words.up.rooted v c.requires.inside b.front b.label))
          (then b.ends (wrote_two (at m.bits.now v) (omega arith) c.to_le_bytes-2.ensures c.put-2.ensures) (omega arith));
      depths =
          subst (λ (ws : List ℕ). Wrote 0 ws c.args.depths.now c.put-3.new.out) (ap (λ (x : ℕ). flat_map two (depths_in b.front) ++ two x) d ∙ sym (depths_are f up m.words.up.rooted v c.requires.inside b.front b.label))
          (then b.depths (wrote_two (at m.depth.now v) (omega arith) c.to_le_bytes-3.ensures c.put-3.ensures) (omega arith));
      body =
          subst (λ (ws : List Bool). Wrote 0 ws (unpacked c.args.body.now) (unpacked c.put_word-2.new.out)) (ap (λ w. body_in b.front ++ bits w) c.path_word-word.ensures.is ∙ sym (body_is f up m.words.up.rooted v c.requires.inside b.front b.label))
          (then b.body c.put_word-2.ensures (omega arith));
    }
