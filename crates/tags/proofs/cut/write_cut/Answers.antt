use Rattle.std.proofs.Common.{ℕ, ◌+◌, ◌-◌, ◌*◌, ◌/◌, List, ◌++◌, set, drop, refl, ◌∙◌, arith}
use Rattle.formats.proofs.Cutting.{cut_with}
use Rattle.tags.proofs.Puts.{down, wrote_cut, parts_fit}
use Rattle.tags.proofs.cut.write_cut.Goals as goal

abbrev written : List ℕ → List ℕ → List ℕ → List ℕ → List ℕ → List ℕ → List ℕ
written a x ends depths body r = a ++ (x ++ (ends ++ (depths ++ (body ++ r))))

pub overflow_sub-last-2 : goal.overflow_sub-last-2
overflow_sub-last-2 c = omega (arith, parts_fit c.args.tag.now c.args.m c.requires.odd c.requires.fields)

pub slice_bounds-copy_from_slice-end-2 : goal.slice_bounds-copy_from_slice-end-2
slice_bounds-copy_from_slice-end-2 c = omega (arith, parts_fit c.args.tag.now c.args.m c.requires.odd c.requires.fields)

pub slice_bounds-copy_from_slice-end-3 : goal.slice_bounds-copy_from_slice-end-3
slice_bounds-copy_from_slice-end-3 c = omega (arith, parts_fit c.args.tag.now c.args.m c.requires.odd c.requires.fields)

pub slice_bounds-copy_from_slice-count-4 : goal.slice_bounds-copy_from_slice-count-4
slice_bounds-copy_from_slice-count-4 c = omega (arith, parts_fit c.args.tag.now c.args.m c.requires.odd c.requires.fields)

pub slice_bounds-copy_from_slice-start-4 : goal.slice_bounds-copy_from_slice-start-4
slice_bounds-copy_from_slice-start-4 c = omega (arith, parts_fit c.args.tag.now c.args.m c.requires.odd c.requires.fields)

pub slice_bounds-copy_from_slice-end-4 : goal.slice_bounds-copy_from_slice-end-4
slice_bounds-copy_from_slice-end-4 c = omega (arith, parts_fit c.args.tag.now c.args.m c.requires.odd c.requires.fields)

pub bounds-bytes-last : goal.bounds-bytes-last
bounds-bytes-last c = omega (arith, parts_fit c.args.tag.now c.args.m c.requires.odd c.requires.fields)

pub bounds-rest-0 : goal.bounds-rest-0
bounds-rest-0 c = omega (arith, parts_fit c.args.tag.now c.args.m c.requires.odd c.requires.fields)

pub returns : goal.returns
returns c =
    let fit = parts_fit c.args.tag.now c.args.m c.requires.odd c.requires.fields in
    let bs = c.args.tag.now.bytes.now in
    let d = c.args.out.now in
    let k = c.count-k.ensures in
    let l = c.end_of-bits.ensures in
    let g = c.head_of-head.result + c.filled.result - 1 in
    let r1 = c.split_at_mut-number.ensures.back in
    let r2 = down d _ _ 2 1 3 r1 c.split_at_mut-count.ensures.back refl in
    let r3 = down d _ _ 3 (2 * c.args.m) (3 + 2 * c.args.m) r2 c.split_at_mut-ends.ensures.back refl in
    let r4 = down d _ _ (3 + 2 * c.args.m) (c.args.m + 1) (3 * c.args.m + 4) r3 c.split_at_mut-depths.ensures.back (omega arith) in
    let r5 = down d _ _ (3 * c.args.m + 4) (g - c.head_of-head.result) _ r4 c.split_at_mut-body.ensures.back refl in
    let r6 = down d _ _ (3 * c.args.m + 4 + (g - c.head_of-head.result)) 1 (3 * c.args.m + 4 + (c.end_of-bits.result + 7) / 8) r5 refl (omega (arith, fit, c.filled.ensures)) in
    (λ t. written (c.copy_from_slice.ensures.after t) (set c.split_at_mut-count.result.0.now 0 c.args.m) (c.copy_from_slice-2.ensures.after t) (c.copy_from_slice-3.ensures.after t) (c.copy_from_slice-4.ensures.after t) (set c.split_at_mut-body.result.1.now 0 c.clear.result))
    ∙ wrote_cut bs d c.split_at_mut-count.result.0.now c.split_at_mut-body.result.1.now c.count-k.result c.args.m c.end_of-bits.result c.head_of-head.result c.past_ends.result c.past_ends-depths_at.result g c.clear.result
    (omega arith) (omega (arith, fit)) r6 c.head_of-head.ensures c.past_ends.ensures c.past_ends-depths_at.ensures (omega (arith, fit, c.head_of-head.ensures, c.filled.ensures))
    c.clear.ensures
    ∙ (λ t. cut_with bs (k t) c.args.m (l t) ++ drop (3 * c.args.m + 4 + (l t + 7) / 8) d)
