use Rattle.std.proofs.Common.{◌+◌, length, drop, Some, None, vec_items, sym, ap, ◌∙◌, rules, arith}
use Rattle.std.proofs.lemmas.Iterator.Consumers.{YieldsList-turn, YieldsList-end}
use Rattle.std.proofs.lemmas.List.{length_push, drop_all}
use Rattle.std.specs.List.{slice_split}
use Rattle.mirgozda.proofs.Levels.{is_feed, levels_in, after, after_all, after_one, begins, yields, skipped, taken}
use Rattle.mirgozda.proofs.parts.levels_of_text.Goals as goal

pub loop-line-init : goal.loop-line-init
loop-line-init c = begins (vec_items c.new-all.result) c.args.text.now c.new-all.ensures.items

pub loop-line-preserved-then-is_empty : goal.loop-line-preserved-then-is_empty
loop-line-preserved-then-is_empty c =
    let i = c.into_iter-line-iterator.ensures.into_iter_gives in
    let e = c.split-line-items.ensures in
    let parts = slice_split is_feed c.args.text.now in
    let t = YieldsList-turn (yields _ c.args.text.now i e.rest e.done e.closure (λ x b q k. search rules)) c.loop-line.yielded _ c.loop-line.yielded_by _ _ c.in-Some.line c.in-Some.is c.next.ensures.steps in
    let s = skipped parts (length c.loop-line.yielded) c.in-Some.line.now c.trim_return-line.result.now t c.trim_return-line.ensures (sym c.is_empty.ensures ∙ c.if-is_empty.true) in
    ap (λ n. after (vec_items c.loop-line.all) (levels_in (drop n parts))) (length_push c.loop-line.yielded c.in-Some.line)
    ∙ (sym (ap (after (vec_items c.loop-line.all)) s) ∙ c.loop-line.invariant)

pub returns-in_default : goal.returns-in_default
returns-in_default c =
    let i = c.into_iter-line-iterator.ensures.into_iter_gives in
    let e = c.split-line-items.ensures in
    let parts = slice_split is_feed c.args.text.now in
    let t = YieldsList-turn (yields _ c.args.text.now i e.rest e.done e.closure (λ x b q k. search rules)) c.loop-line.yielded _ c.loop-line.yielded_by _ _ c.in-Some.line c.in-Some.is c.next.ensures.steps in
    let s =
    taken parts (length c.loop-line.yielded) c.in-Some.line.now c.trim_return-line.result.now t c.trim_return-line.ensures None
    (sym c.is_empty.ensures ∙ c.if-is_empty.false) c.in_default.ensures in
    sym (ap (after (vec_items c.loop-line.all)) s) ∙ c.loop-line.invariant

pub loop-line-preserved : goal.loop-line-preserved
loop-line-preserved c =
    let i = c.into_iter-line-iterator.ensures.into_iter_gives in
    let e = c.split-line-items.ensures in
    let parts = slice_split is_feed c.args.text.now in
    let n = length c.loop-line.yielded in
    let t = YieldsList-turn (yields _ c.args.text.now i e.rest e.done e.closure (λ x b q k. search rules)) c.loop-line.yielded _ c.loop-line.yielded_by _ _ c.in-Some.line c.in-Some.is c.next.ensures.steps in
    let s =
    taken parts n c.in-Some.line.now c.trim_return-line.result.now t c.trim_return-line.ensures (Some c.in-Some-level.n)
    (sym c.is_empty.ensures ∙ c.if-is_empty.false) c.in-Some-level.ensures in
    ap (λ n. after (vec_items c.push.new.self) (levels_in (drop n parts))) (length_push c.loop-line.yielded c.in-Some.line)
    ∙ (ap (λ xs. after xs (levels_in (drop (n + 1) parts))) c.in_ok-push.ensures.items
    ∙ (after_one (vec_items c.loop-line.all) c.in-Some-level.n (levels_in (drop (n + 1) parts))
    ∙ (sym (ap (after (vec_items c.loop-line.all)) s) ∙ c.loop-line.invariant)))

pub returns : goal.returns
returns c =
    let i = c.into_iter-line-iterator.ensures.into_iter_gives in
    let e = c.split-line-items.ensures in
    let parts = slice_split is_feed c.args.text.now in
    let t = YieldsList-end (yields _ c.args.text.now i e.rest e.done e.closure (λ x b q k. search rules)) c.loop-line.yielded _ c.loop-line.yielded_by _ _ c.in-None.is c.next.ensures.steps in
    sym (after_all (vec_items c.loop-line.all))
    ∙ (sym (ap (λ ls. after (vec_items c.loop-line.all) (levels_in ls)) (drop_all (length c.loop-line.yielded) parts (omega (arith, t.1)))) ∙ c.loop-line.invariant)
