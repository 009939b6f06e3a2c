use Rattle.std.proofs.Common.{◌≡◌, ℕ, ◌+◌, ◌<◌, List, length, true, is_ok, Result, sym, refl, ap, ◌∙◌, arith, rules}
use Rattle.codes.specs.declared.word.Word.{Word}
use Rattle.codes.specs.declared.code.CodeRefusal.{CodeRefusal}
use Rattle.codes.specs.Weighing.{Weights}
use Rattle.codes.specs.Coding.{answer}
use Rattle.codes.proofs.Accepting.{accepts_yes, next_more}
use Rattle.codes.proofs.Answering.{answer_yes, answer_moved, own_word}
use Rattle.rows.specs.Chains.{chain}
use Rattle.rows.proofs.Runs.{turn, left_none}
use Rattle.rows.proofs.Walks.{walk_on, walk_end}
use Rattle.rows.proofs.chains.put_words.Goals as goal

-- an accepted list has a word for each of its items
has_word : (f : List ℕ → ℕ → Word) (r : Result Word CodeRefusal) {vs : List ℕ} (ws : List ℕ) (i : ℕ) → r ≡ answer f vs i → vs ≡ ws → Weights ws → i < length ws → is_ok r ≡ true
has_word f r ws i e p w l = ap is_ok (answer_moved f r e p refl ∙ sym (answer_yes f ws i (f ws i) (sym (accepts_yes ws i w l)) refl))

pub unwrap-word-requires : goal.unwrap-word-requires
unwrap-word-requires g c =
    let t = turn c.args.chains.now.next.now c.args.chains.now.rising c.args.from c.loop-c.item.index c.in-Some.c c.next.new.self c.requires.inside (c.loop-c.invariant.ahead ∙ c.in-Some.ensures.steps) in
    has_word (g.C.Code.words c.args.code.now) c.word.result c.args.list.now c.loop-c.item.index c.word.ensures.told c.loop-c.invariant.same_list c.requires.fine (omega (arith, t.within, c.requires.many))

pub loop-c-preserved : goal.loop-c-preserved
loop-c-preserved g c =
    let f = g.C.Code.words c.args.code.now in
    let w = c.loop-c.invariant.wide in
    let t = turn c.args.chains.now.next.now c.args.chains.now.rising c.args.from c.loop-c.item.index c.in-Some.c c.next.new.self c.requires.inside (c.loop-c.invariant.ahead ∙ c.in-Some.ensures.steps) in
    let e = own_word f c.word.result c.unwrap-word.result c.unwrap-word.ensures c.word.ensures.told c.loop-c.invariant.same_list refl in
    let l : c.loop-c.item.index < length c.args.list.now = omega (arith, t.within, c.requires.many) in
    let i : c.next-item.result.index ≡ c.loop-c.item.index + 1 = next_more c.next-item.result.index c.next-item.ensures.place c.loop-c.invariant.same_list refl l in
    record {
      can = tt;
      ends = tt;
      same_list = c.next-item.ensures.list ∙ c.loop-c.invariant.same_list;
      ahead = rw i t.later;
      wide = search rules;
      walk =
          rw (c.put.ensures.high, c.put.ensures.low, c.put.ensures.len, i)
          (walk_on (f c.args.list.now) (chain c.args.chains.now.next.now c.args.from) c.args.words.now.high.now c.args.words.now.low.now c.args.words.now.len.now c.in-Some.c c.loop-c.item.index
          c.loop-c.words.high.now c.loop-c.words.low.now c.loop-c.words.len.now c.loop-c.invariant.walk t.within t.here t.behind c.unwrap-word.result e (omega arith) (omega arith) (omega arith));
    }

pub returns-clause-stored : goal.returns-clause-stored
returns-clause-stored g c =
    walk_end (g.C.Code.words c.args.code.now c.args.list.now) (chain c.args.chains.now.next.now c.args.from) c.args.words.now.high.now c.args.words.now.low.now c.args.words.now.len.now c.loop-c.item.index
    c.loop-c.words.high.now c.loop-c.words.low.now c.loop-c.words.len.now (left_none (chain c.args.chains.now.next.now c.args.from) c.loop-c.item.index (c.loop-c.invariant.ahead ∙ c.in-None.ensures.steps.0)) c.loop-c.invariant.walk
