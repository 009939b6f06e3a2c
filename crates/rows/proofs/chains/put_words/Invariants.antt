use Rattle.std.proofs.Common.{◌≡◌, length, drop}
use Rattle.rows.specs.Chains.{chain, Wide}
use Rattle.rows.proofs.Walks.{Walk}
use Rattle.rows.proofs.chains.put_words.Given as goal

abbrev pub invariant-loop-c : goal.invariant-loop-c
invariant-loop-c g l =
    record {
      can : (goal.iterator-loop-c g).can_next l.c-iterator;
      ends : (goal.iterator-loop-c g).is_finite l.c-iterator;
      same_list : l.item.weights.now ≡ l.list;
      ahead : drop l.item.index (chain l.chains.next.now l.from) ≡ l.c-iterator;
      wide : Wide (length l.chains.next.now) l.words.high.now l.words.low.now l.words.len.now;
      walk : Walk (g.C.Code.words l.code l.list) (chain l.chains.next.now l.from) l.item.index l.initial.words.high.now l.initial.words.low.now l.initial.words.len.now l.words.high.now l.words.low.now l.words.len.now;
    }
