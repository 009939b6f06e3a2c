use Rattle.std.proofs.Common.{◌≡◌, ◌%◌, ◌<◌, ◌≤◌, ◌++◌, length, take, drop, None, Ok, sym, ap, ◌∙◌, subst, arith}
use Rattle.formats.specs.Faults.{tag_fault}
use Rattle.formats.specs.Layout.{count_of}
use Rattle.formats.specs.Theorems.{Bytes, Shortened}
use Rattle.formats.proofs.Cutting.{cut_bytes, cut_size}
use Rattle.formats.proofs.CutTags.{room_answer, room_output, done_answer, done_output, done_reads}
use Rattle.tags.proofs.cut.cut.Goals as goal
use Rattle.tags.proofs.cut.cut.Goals.{After-cut_size-size}

module _ (c : After-cut_size-size) where
  fault : tag_fault c.args.bytes.now ≡ None
  fault = c.in_ok-tag.ensures.told.0

  small : Bytes c.args.bytes.now
  small = λ i. omega (arith, c.type_inv.bytes i)

  odd : c.args.m % 2 ≡ 1
  odd = omega arith

  within : c.args.m ≤ count_of c.args.bytes.now
  within = omega (arith, c.count.ensures, ap count_of c.in_ok-tag.ensures.told.1)

  size : c.cut_size-size.result ≡ cut_size c.args.bytes.now c.args.m
  size = c.cut_size-size.ensures ∙ ap (λ bs. cut_size bs c.args.m) c.in_ok-tag.ensures.told.1

pub returns-then-out-size : goal.returns-then-out-size
returns-then-out-size c =
    let p = (goal.at.returns-then-out-size c).After-cut_size-size in
    let short : length c.args.out.now < cut_size c.args.bytes.now c.args.m = omega (arith, size p) in
    record {
      answer = room_answer c.args.bytes.now c.args.m (small p) (fault p) (odd p) (within p) (length c.args.out.now) short;
      output = room_output c.args.bytes.now c.args.m (small p) (fault p) (odd p) (within p) c.args.out.now short;
      reads = tt;
    }

pub returns : goal.returns
returns c =
    let p = (goal.at.returns c).After-cut_size-size in
    let n = size p in
    let room : cut_size c.args.bytes.now c.args.m ≤ length c.args.out.now = omega (arith, n) in
    let o =
    c.write_cut.ensures
    ∙ ap (λ bs. cut_bytes bs c.args.m ++ drop (cut_size bs c.args.m) c.args.out.now) c.in_ok-tag.ensures.told.1
    ∙ done_output c.args.bytes.now c.args.m (small p) (fault p) (odd p) (within p) c.args.out.now room in
    record {
      answer = ap Ok n ∙ done_answer c.args.bytes.now c.args.m (small p) (fault p) (odd p) (within p) (length c.args.out.now) room;
      output = o;
      reads =
          let n' = sym n in
          let o' = sym o in
          subst (Shortened c.args.bytes.now c.args.m) (λ t. take (n' t) (o' t))
          (done_reads c.args.bytes.now c.args.m (small p) (fault p) (odd p) (within p) c.args.out.now room);
    }
