use Rattle.std.proofs.Common.{◌≡◌, ℕ, ◌+◌, ◌<◌, List, length, sym, ◌∙◌, subst, arith}
use Rattle.rows.specs.Chains.{at}
use Rattle.labels.specs.Paths.{top}
use Rattle.rows.specs.Rows.{parents_in}
use Rattle.formats.specs.Label.{body_in}
use Rattle.rows.specs.Rows.{row_label}
use Rattle.rows.proofs.Labelled.{stored_more, top_in, above, fields_root, bits_root, few_fields, few_bits}
use Rattle.rows.proofs.marks.counts.Goals as goal
use Rattle.rows.proofs.marks.counts.Goals.{then-t-eq0, else-t-eq0}

pub loop-v-preserved : goal.loop-v-preserved
loop-v-preserved g c =
    let f = g.C.Code.words c.args.words.now.code.now in
    let up = c.args.words.now.up.row.now in
    let v = c.loop-v.v in
    let l : v < length up = omega arith in
    let F : ℕ → ℕ = λ w. length (body_in (row_label (g.C.Code.words c.args.words.now.code.now) c.args.words.now.up.row.now w)) in
    let G : ℕ → ℕ = λ w. length (row_label (g.C.Code.words c.args.words.now.code.now) c.args.words.now.up.row.now w) in
    let Q : (ℕ → ℕ) → List ℕ → Type 0 = λ H xs. (w : ℕ) → w < v + 1 → at xs w ≡ H w in
    elim c.if-t-eq0.branch [
      | then-t-eq0 w ↦
          let z : top (parents_in up) (length up) v ≡ 0 = sym (c.args.words.now.topped v l) ∙ w.if-t-eq0.true in (
            subst (Q F) (sym w.bits-is) (stored_more F c.loop-v.bits v _ ((c.args.words.now.paths v l).1 ∙ bits_root up c.args.words.now.up.rooted f v l z) (omega arith) c.loop-v.invariant.0),
            subst (Q G) (sym w.fields-is) (stored_more G c.loop-v.fields v 1 (fields_root up c.args.words.now.up.rooted f v l z) (omega arith) c.loop-v.invariant.1),
          )
      | else-t-eq0 w ↦
          let A = above (record { rooted = c.args.words.now.up.rooted; topped = c.args.words.now.topped; paths = c.args.words.now.paths; branches = c.args.words.now.branches }) v l w.if-t-eq0.false in (
            subst (Q F) (sym w.bits-is) (stored_more F c.loop-v.bits v _ (A.bits_are c.loop-v.bits c.loop-v.invariant.0) (omega arith) c.loop-v.invariant.0),
            subst (Q G) (sym w.fields-is) (stored_more G c.loop-v.fields v _ (A.fields_are c.loop-v.fields c.loop-v.invariant.1) (omega arith) c.loop-v.invariant.1),
          )
    ]

pub bounds-words-t-else-t-eq0 : goal.bounds-words-t-else-t-eq0
bounds-words-t-else-t-eq0 g c =
    omega (arith, top_in c.args.words.now.up.row.now c.args.words.now.top.now c.args.words.now.up.rooted c.args.words.now.topped c.loop-v.v (omega arith), c.args.words.now.wide_branches.2)

pub overflow_add-bits : goal.overflow_add-bits
overflow_add-bits g c =
    let A = above (record { rooted = c.args.words.now.up.rooted; topped = c.args.words.now.topped; paths = c.args.words.now.paths; branches = c.args.words.now.branches }) c.loop-v.v (omega arith) c.if-t-eq0.false in
    omega (arith, A.bits_are c.loop-v.bits c.loop-v.invariant.0, few_bits c.args.words.now.up.row.now c.args.words.now.up.rooted (g.C.Code.words c.args.words.now.code.now) (g.C.Code.laws c.args.words.now.code.now) c.loop-v.v (omega arith))

pub overflow_add-bits-else-t-eq0 : goal.overflow_add-bits-else-t-eq0
overflow_add-bits-else-t-eq0 g c =
    let A = above (record { rooted = c.args.words.now.up.rooted; topped = c.args.words.now.topped; paths = c.args.words.now.paths; branches = c.args.words.now.branches }) c.loop-v.v (omega arith) c.if-t-eq0.false in
    omega (arith, A.bits_are c.loop-v.bits c.loop-v.invariant.0, few_bits c.args.words.now.up.row.now c.args.words.now.up.rooted (g.C.Code.words c.args.words.now.code.now) (g.C.Code.laws c.args.words.now.code.now) c.loop-v.v (omega arith))

pub overflow_add-fields : goal.overflow_add-fields
overflow_add-fields g c =
    let A = above (record { rooted = c.args.words.now.up.rooted; topped = c.args.words.now.topped; paths = c.args.words.now.paths; branches = c.args.words.now.branches }) c.loop-v.v (omega arith) c.if-t-eq0.false in
    omega (arith, A.fields_are c.loop-v.fields c.loop-v.invariant.1, few_fields c.args.words.now.up.row.now c.args.words.now.up.rooted (g.C.Code.words c.args.words.now.code.now) c.loop-v.v (omega arith))
