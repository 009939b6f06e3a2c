-- The promises, from what a place holds.
use Rattle.std.proofs.Common.{◌≡◌, ℕ, zero, suc, ◌<◌, ◌≤◌, Bool, true, false, cond, not, ◌&&◌, eqb, ltb, leb, List, [], ◌∷◌, ◌++◌, length, get_or, Some, None, Option, sym, refl, ap, ◌∙◌, subst, ⊎_elim, arith}
use Rattle.std.proofs.lemmas.Bool.{eq-eqb, lt-ltb, le-leb, cond-true, and_from, cases_lt, false≢true}
use Rattle.trees.specs.Tree.{Tree}
use Rattle.codes.specs.declared.word.Word.{Word}
use Rattle.codes.specs.Coding.{Lawful}
use Rattle.formats.specs.Limits.{most_number}
use Rattle.formats.specs.Layout.{tree_of}
use Rattle.formats.specs.Theorems.{Reads}
use Rattle.formats.specs.Models.{label_of}
use Rattle.formats.specs.Pairs.{clash, related}
use Rattle.labels.specs.Labels.{label}
use Rattle.labels.specs.Sheet.{tag}
use Rattle.labels.proofs.Covering.{all_covers, all_relates}
use Rattle.labels.proofs.Tags.{known}
use Rattle.histories.specs.Model.{Cell, empty, opened, started, State, Ticket, Stage, at_opened, at_started, place_count, opened_ticket, started_ticket, traded, Call, opens, starts, adds, covers, closes, compares, abandons, Refusal, Answer, refuses, hands, writes, relates, spends, no_such_place, not_one_tree, short_output, Event, open_says, starting, adding, covering, closing, abandoning, at_stage, start_fault, add_fault, verdict, fits, cell, says, misfit, told, related_or, compared, after, answer, fresh}
use Rattle.histories.specs.Told.{History, names, is_empty, is_opened, is_started, standing, accepted, AllBytes, ticket_of, foreign, in_vain}
use Rattle.histories.specs.Promises.{the_rack, history, run, OfSheet, Held, Written, Compared, OnSheet, Promised}
use Rattle.histories.proofs.Local.{Kept, place_says, says_here, isolation}
use Rattle.histories.proofs.Nodes.{starts_fine, adds_fine}
use Rattle.histories.proofs.Stood.{stands_as, fresh_cell, stood, run_kept}
use Rattle.histories.proofs.Sheet.{Fine, Good, good_run}
use Rattle.histories.proofs.Reading.{ReadsIn, reads_run, held_reads}
use Rattle.histories.proofs.Vain.{vain_later}

-- ---- a place in a known state

past : (cs : List Cell) (p : ℕ) → length cs ≤ p → get_or cs p empty ≡ empty
past [] p l = refl
past (c ∷ cs) zero l = absurd (omega arith)
past (c ∷ cs) (suc p) l = past cs p (omega arith)

-- a place that is started is one of the sixteen
below : (s : State) (p : ℕ) (h : List ℕ) → length s.cells ≡ place_count → cell s p ≡ started h → p < place_count
below s p h l e = ⊎_elim (λ k. k) (λ k. absurd (none k)) (cases_lt p place_count)
  where
    none : place_count ≤ p → ⊥
    none k =
        let a : cell s p ≡ empty = past s.cells p (omega arith) in
        let z : ◌≡◌ {A = ℕ} 0 1 = cc in
        omega arith

empty_is : (v : Cell) → is_empty ≡ stands_as v → v ≡ empty
empty_is empty e = refl
empty_is opened e = let z : ◌≡◌ {A = ℕ} 0 1 = cc in absurd (omega arith)
empty_is (started h) e = let z : ◌≡◌ {A = ℕ} 0 1 = cc in absurd (omega arith)

opened_is : (v : Cell) → is_opened ≡ stands_as v → v ≡ opened
opened_is empty e = let z : ◌≡◌ {A = ℕ} 0 1 = cc in absurd (omega arith)
opened_is opened e = refl
opened_is (started h) e = let z : ◌≡◌ {A = ℕ} 0 1 = cc in absurd (omega arith)

started_is : (v : Cell) → is_started ≡ stands_as v → (h : List ℕ) × (v ≡ started h)
started_is empty e = let z : ◌≡◌ {A = ℕ} 0 1 = cc in absurd (omega arith)
started_is opened e = let z : ◌≡◌ {A = ℕ} 0 1 = cc in absurd (omega arith)
started_is (started h) e = (h, refl)

-- a place that is opened was empty
open_empty : (t u : Ticket) (v : Cell) (w : Bool) → cond w (open_says t v) (refuses no_such_place None) ≡ hands u → v ≡ empty
open_empty t u v false e = let z : ◌≡◌ {A = ℕ} 0 1 = cc in absurd (omega arith)
open_empty t u empty true e = refl
open_empty t u opened true e = let z : ◌≡◌ {A = ℕ} 0 1 = cc in absurd (omega arith)
open_empty t u (started h) true e = let z : ◌≡◌ {A = ℕ} 0 1 = cc in absurd (omega arith)

-- compare of two started places
compare_told : (r : State) (p q : ℕ) (h k : List ℕ) → length r.cells ≡ place_count → cell r p ≡ started h → cell r q ≡ started k
    → answer r (compares p q) ≡ related_or (label_of h) (label_of k)
compare_told r p q h k l e f =
    cond-true (ltb p place_count && ltb q place_count) _ _
    (and_from (ltb p place_count) (ltb q place_count) (lt-ltb p place_count (below r p h l e)) (lt-ltb q place_count (below r q k l f)))
    ∙ (ap (λ (v : Cell). compared v (cell r q)) e ∙ ap (λ (v : Cell). compared (started h) v) f)

-- ---- tickets

-- those of other racks
gate : (w : Bool) (a b : Answer) → not w ≡ true → in_vain b ≡ true → in_vain (cond w a b) ≡ true
gate true a b e f = absurd (false≢true e)
gate false a b e f = f

misfit_vain : (t : Ticket) (e : Event) → in_vain (misfit t e) ≡ true
misfit_vain t (starting b) = refl
misfit_vain t (adding b) = refl
misfit_vain t (covering room) = refl
misfit_vain t (closing room) = refl
misfit_vain t abandoning = refl

unfit : (w x : Bool) → not w ≡ true → not (w && x) ≡ true
unfit true x e = absurd (false≢true e)
unfit false x e = refl

barred_told : (r : State) (t : Ticket) (e : Event) → not (eqb t.rack r.number) ≡ true → in_vain (told r t e) ≡ true
barred_told r t e f =
    gate (fits r.number (cell r t.place) t) _ _ (unfit (eqb t.rack r.number) (at_stage (cell r t.place) t.stage) f) (misfit_vain t e)

barred : (r : State) (c : Call) → foreign r.number c ≡ true → in_vain (answer r c) ≡ true
barred r (opens p) e = absurd (false≢true e)
barred r (starts t b) e = barred_told r t (starting b) e
barred r (adds t b) e = barred_told r t (adding b) e
barred r (covers t room) e = barred_told r t (covering room) e
barred r (closes t room) e = barred_told r t (closing room) e
barred r (compares p q) e = absurd (false≢true e)
barred r (abandons t) e = barred_told r t abandoning e

-- those of refused calls
abbrev Back : Option Ticket → Answer → Type 0
Back o (refuses w back) = back ≡ o
Back o (hands t) = Unit {0}
Back o (writes k b back) = Unit {0}
Back o (relates r) = Unit {0}
Back o (spends b) = Unit {0}

back_cond : (o : Option Ticket) (a b : Answer) (w : Bool) → Back o a → Back o b → Back o (cond w a b)
back_cond o a b true f g = f
back_cond o a b false f g = g

back_verdict : (t u : Ticket) (r : Option Refusal) → Back (Some t) (verdict r t (hands u))
back_verdict t u None = tt
back_verdict t u (Some w) = refl

back_open : (t : Ticket) (v : Cell) → Back None (open_says t v)
back_open t empty = tt
back_open t opened = refl
back_open t (started h) = refl

back_misfit : (t : Ticket) (e : Event) → Back (Some t) (misfit t e)
back_misfit t (starting b) = refl
back_misfit t (adding b) = refl
back_misfit t (covering room) = refl
back_misfit t (closing room) = refl
back_misfit t abandoning = tt

back_says : (tree : ℕ) (t : Ticket) (v : Cell) (e : Event) → Back (Some t) (says tree t v e)
back_says tree t empty e = back_misfit t e
back_says tree t opened (starting b) = back_verdict t (traded t) (start_fault tree b)
back_says tree t opened (adding b) = refl
back_says tree t opened (covering room) = refl
back_says tree t opened (closing room) = refl
back_says tree t opened abandoning = tt
back_says tree t (started h) (starting b) = refl
back_says tree t (started h) (adding b) = back_verdict t t (add_fault tree h b)
back_says tree t (started h) (covering room) = back_cond (Some t) _ _ (leb (length h) room) tt refl
back_says tree t (started h) (closing room) = back_cond (Some t) _ _ (leb (length h) room) tt refl
back_says tree t (started h) abandoning = tt

back_compare : (u v : Cell) → Back None (compared u v)
back_compare empty v = refl
back_compare opened v = refl
back_compare (started a) empty = refl
back_compare (started a) opened = refl
back_compare (started a) (started b) = back_cond None (refuses not_one_tree None) (relates (related (label_of a) (label_of b))) (clash (label_of a) (label_of b)) refl tt

back_told : (r : State) (t : Ticket) (e : Event) → Back (Some t) (told r t e)
back_told r t e = back_cond (Some t) _ _ (fits r.number (cell r t.place) t) (back_says r.tree t (cell r t.place) e) (back_misfit t e)

back : (r : State) (c : Call) → Back (ticket_of c) (answer r c)
back r (opens p) = back_cond None _ _ (ltb p place_count) (back_open (opened_ticket r.number p) (cell r p)) refl
back r (starts t b) = back_told r t (starting b)
back r (adds t b) = back_told r t (adding b)
back r (covers t room) = back_told r t (covering room)
back r (closes t room) = back_told r t (closing room)
back r (compares p q) = back_cond None _ _ (ltb p place_count && ltb q place_count) (back_compare (cell r p) (cell r q)) refl
back r (abandons t) = back_told r t abandoning

-- a ticket of the rack for the state that the place is in
told_own : (r : State) (num p : ℕ) (k : Stage) (v : Cell) (e : Event) → r.number ≡ num → cell r p ≡ v → at_stage v k ≡ true
    → told r (record { rack = num; place = p; stage = k }) e ≡ says r.tree (record { rack = num; place = p; stage = k }) v e
told_own r num p k v e n c f =
    ap (λ (x : Cell). cond (fits r.number x (record { rack = num; place = p; stage = k })) (says r.tree (record { rack = num; place = p; stage = k }) x e) (misfit (record { rack = num; place = p; stage = k }) e)) c
    ∙ cond-true (eqb num r.number && at_stage v k) _ _ (and_from (eqb num r.number) (at_stage v k) (eq-eqb num r.number (sym n)) f)

-- ---- where an answer writes, it writes what the place holds

abbrev Fair : Cell → Answer → Type 0
Fair v (refuses w back) = Unit {0}
Fair v (hands t) = Unit {0}
Fair v (writes k b back) = (v ≡ started b) × (k ≡ length b)
Fair v (relates r) = Unit {0}
Fair v (spends b) = Unit {0}

fair_room : (h : List ℕ) (back : Option Ticket) (t : Ticket) (w : Bool) → Fair (started h) (cond w (writes (length h) h back) (refuses short_output (Some t)))
fair_room h back t true = (refl, refl)
fair_room h back t false = tt

fair_verdict : (v : Cell) (t u : Ticket) (r : Option Refusal) → Fair v (verdict r t (hands u))
fair_verdict v t u None = tt
fair_verdict v t u (Some w) = tt

fair_open : (t : Ticket) (v : Cell) → Fair v (open_says t v)
fair_open t empty = tt
fair_open t opened = tt
fair_open t (started h) = tt

fair_misfit : (v : Cell) (t : Ticket) (e : Event) → Fair v (misfit t e)
fair_misfit v t (starting b) = tt
fair_misfit v t (adding b) = tt
fair_misfit v t (covering room) = tt
fair_misfit v t (closing room) = tt
fair_misfit v t abandoning = tt

fair_says : (tree : ℕ) (t : Ticket) (v : Cell) (e : Event) → Fair v (says tree t v e)
fair_says tree t empty e = fair_misfit empty t e
fair_says tree t opened (starting b) = fair_verdict opened t (traded t) (start_fault tree b)
fair_says tree t opened (adding b) = tt
fair_says tree t opened (covering room) = tt
fair_says tree t opened (closing room) = tt
fair_says tree t opened abandoning = tt
fair_says tree t (started h) (starting b) = tt
fair_says tree t (started h) (adding b) = fair_verdict (started h) t t (add_fault tree h b)
fair_says tree t (started h) (covering room) = fair_room h (Some t) t (leb (length h) room)
fair_says tree t (started h) (closing room) = fair_room h None t (leb (length h) room)
fair_says tree t (started h) abandoning = tt

fair_cond : (v : Cell) (a b : Answer) (w : Bool) → Fair v a → Fair v b → Fair v (cond w a b)
fair_cond v a b true f g = f
fair_cond v a b false f g = g

fair_lone : (num tree : ℕ) (v : Cell) (t : Ticket) (e : Event) → Fair v (cond (fits num v t) (says tree t v e) (misfit t e))
fair_lone num tree v t e = fair_cond v _ _ (fits num v t) (fair_says tree t v e) (fair_misfit v t e)

fair_place : (num tree : ℕ) (v : Cell) (c : Call) → Fair v (place_says num tree v c)
fair_place num tree v (opens q) = fair_cond v _ _ (ltb q place_count) (fair_open (opened_ticket num q) v) tt
fair_place num tree v (starts t b) = fair_lone num tree v t (starting b)
fair_place num tree v (adds t b) = fair_lone num tree v t (adding b)
fair_place num tree v (covers t room) = fair_lone num tree v t (covering room)
fair_place num tree v (closes t room) = fair_lone num tree v t (closing room)
fair_place num tree v (compares q r) = tt
fair_place num tree v (abandons t) = fair_lone num tree v t abandoning

-- compare writes nothing
abbrev Unwritten : Answer → Type 0
Unwritten (refuses w back) = Unit {0}
Unwritten (hands t) = Unit {0}
Unwritten (writes k b back) = ⊥
Unwritten (relates r) = Unit {0}
Unwritten (spends b) = Unit {0}

unwritten_compare : (u v : Cell) (w : Bool) → Unwritten (cond w (compared u v) (refuses no_such_place None))
unwritten_compare u v false = tt
unwritten_compare empty v true = tt
unwritten_compare opened v true = tt
unwritten_compare (started a) empty true = tt
unwritten_compare (started a) opened true = tt
unwritten_compare (started a) (started b) true = go (clash (label_of a) (label_of b))
  where
    go : (x : Bool) → Unwritten (cond x (refuses not_one_tree None) (relates (related (label_of a) (label_of b))))
    go true = tt
    go false = tt

-- what is written is held at some place
written_in : (v : Cell) (a : Answer) (k : ℕ) (b : List ℕ) (o : Option Ticket) → Fair v a → a ≡ writes k b o → v ≡ started b
written_in v a k b o f e = (subst (λ (x : Answer). Fair v x) e f).0

written_at : (r : State) (c : Call) (k : ℕ) (b : List ℕ) (o : Option Ticket) → answer r c ≡ writes k b o → (p : ℕ) × (cell r p ≡ started b)
written_at r (opens q) k b o e = (q, written_in _ _ k b o (fair_place r.number r.tree (cell r q) (opens q)) e)
written_at r (starts t x) k b o e = (t.place, written_in _ _ k b o (fair_lone r.number r.tree (cell r t.place) t (starting x)) e)
written_at r (adds t x) k b o e = (t.place, written_in _ _ k b o (fair_lone r.number r.tree (cell r t.place) t (adding x)) e)
written_at r (covers t x) k b o e = (t.place, written_in _ _ k b o (fair_lone r.number r.tree (cell r t.place) t (covering x)) e)
written_at r (closes t x) k b o e = (t.place, written_in _ _ k b o (fair_lone r.number r.tree (cell r t.place) t (closing x)) e)
written_at r (compares p q) k b o e = absurd (subst (λ (a : Answer). Unwritten a) e (unwritten_compare (cell r p) (cell r q) (ltb p place_count && ltb q place_count)))
written_at r (abandons t) k b o e = (t.place, written_in _ _ k b o (fair_lone r.number r.tree (cell r t.place) t abandoning) e)

-- ---- a history that is cut at one call

record Cut (s : State) (before : History) (e : Call × Answer) : Type 0 where
  calls : List Call
  before_is : before ≡ history the_rack s calls
  answer_is : answer (run the_rack s calls) e.0 ≡ e.1

cut : (cs : List Call) (s : State) (before later : History) (e : Call × Answer) → history the_rack s cs ≡ before ++ (e ∷ later) → Cut s before e
cut [] s [] later e q = let z : ◌≡◌ {A = ℕ} 0 1 = cc in absurd (omega arith)
cut [] s (x ∷ before) later e q = let z : ◌≡◌ {A = ℕ} 0 1 = cc in absurd (omega arith)
cut (c ∷ cs) s [] later e q =
    let f : ◌≡◌ {A = Call × Answer} (c, answer s c) e = cc in
    record {
      calls = [];
      before_is = refl;
      answer_is = ap (λ (x : Call × Answer). answer s x.0) (sym f) ∙ ap (λ (x : Call × Answer). x.1) f;
    }
cut (c ∷ cs) s (x ∷ before) later e q =
    let f : ◌≡◌ {A = Call × Answer} (c, answer s c) x = cc in
    let g : history the_rack (after s c) cs ≡ before ++ (e ∷ later) = cc in
    let i = cut cs (after s c) before later e g in
    record {
      calls = c ∷ i.calls;
      before_is = ap (λ (y : Call × Answer). y ∷ before) (sym f) ∙ ap (λ (h : History). (c, answer s c) ∷ h) i.before_is;
      answer_is = i.answer_is;
    }

-- ---- the promises of a new rack

module _ (num tree : ℕ) (two_bytes : tree ≤ most_number) where
  -- the rack after some calls
  abbrev at : List Call → State
  at cs = run the_rack (fresh num tree) cs

  abbrev heard : List Call → History
  heard cs = history the_rack (fresh num tree) cs

  kept : (cs : List Call) → Kept (fresh num tree) (at cs)
  kept cs = run_kept cs (fresh num tree)

  opens_on : (cs : List Call) (p : ℕ) → p < place_count → standing p (heard cs) ≡ is_empty → answer (at cs) (opens p) ≡ hands (opened_ticket num p)
  opens_on cs p k e =
      cond-true (ltb p place_count) _ _ (lt-ltb p place_count k)
      ∙ (ap (λ (v : Cell). open_says (opened_ticket (at cs).number p) v) (empty_is _ (sym e ∙ stood num tree cs p))
      ∙ ap (λ (x : ℕ). hands (opened_ticket x p)) (kept cs).number_kept)

  opens_once : (cs : List Call) (p : ℕ) (t : Ticket) → answer (at cs) (opens p) ≡ hands t → standing p (heard cs) ≡ is_empty
  opens_once cs p t e = stood num tree cs p ∙ ap stands_as (open_empty (opened_ticket (at cs).number p) t (cell (at cs) p) (ltb p place_count) e)

  guarded : (cs : List Call) (c : Call) → foreign num c ≡ true → in_vain (answer (at cs) c) ≡ true
  guarded cs c e = barred (at cs) c (ap (λ (x : ℕ). foreign x c) (kept cs).number_kept ∙ e)

  handed_back : (cs : List Call) (c : Call) (w : Refusal) (o : Option Ticket) → answer (at cs) c ≡ refuses w o → o ≡ ticket_of c
  handed_back cs c w o e = subst (λ (a : Answer). Back (ticket_of c) a) e (back (at cs) c)

  unchanged : (cs ds : List Call) (c d : Call) → in_vain (answer (at cs) c) ≡ true → answer (at (cs ++ (c ∷ ds))) d ≡ answer (at (cs ++ ds)) d
  unchanged cs ds c d f = vain_later cs ds c d (fresh num tree) f

  readable : (cs : List Call) → AllBytes cs → (c : Call) (k : ℕ) (b : List ℕ) (o : Option Ticket) → answer (at cs) c ≡ writes k b o → Reads b × (tree_of b ≡ tree)
  readable cs B c k b o e = go (written_at (at cs) c k b o e)
    where
      go : (p : ℕ) × (cell (at cs) p ≡ started b) → Reads b × (tree_of b ≡ tree)
      go q =
          held_reads tree b
          (subst (λ (v : Cell). ReadsIn tree v) q.1
          (reads_run tree cs (fresh num tree) q.0 refl refl B (subst (λ (v : Cell). ReadsIn tree v) (sym (fresh_cell num tree q.0)) tt)))

  module _ (parent : ℕ → Option ℕ) (n : ℕ) (word : List ℕ → ℕ → Word) (T : Tree parent n) (L : Lawful word) (number : ℕ) where
    abbrev tg : ℕ → List ℕ
    tg v = tag parent n word number v

    good : (cs : List Call) (p : ℕ) → OfSheet parent n word number (heard cs) → Good parent n word T L number tree two_bytes (cell (at cs) p) (accepted p (heard cs))
    good cs p O =
        good_run parent n word T L number tree two_bytes cs (fresh num tree) p [] refl refl O
        (subst (λ (v : Cell). Good parent n word T L number tree two_bytes v []) (sym (fresh_cell num tree p)) tt)

    -- a started place holds a tag of which all is known
    record Holding (v : Cell) (ts : List (List ℕ)) : Type 0 where
      bytes_held : List ℕ
      cell_is : v ≡ started bytes_held
      fine : Fine parent n word T L number tree two_bytes bytes_held ts

    fine_in : (v : Cell) (ts : List (List ℕ)) (b : List ℕ) → Good parent n word T L number tree two_bytes v ts → v ≡ started b → Fine parent n word T L number tree two_bytes b ts
    fine_in v ts b g e = subst (λ (x : Cell). Good parent n word T L number tree two_bytes x ts) e g

    held_at : (cs : List Call) (p : ℕ) → OfSheet parent n word number (heard cs) → standing p (heard cs) ≡ is_started → Holding (cell (at cs) p) (accepted p (heard cs))
    held_at cs p O e =
        let h = started_is (cell (at cs) p) (sym e ∙ stood num tree cs p) in
        record { bytes_held = h.0; cell_is = h.1; fine = fine_in _ _ h.0 (good cs p O) h.1 }

    writes_held : (cs : List Call) (p room : ℕ) (h b : List ℕ) (o : Option Ticket) (e : Event) → cell (at cs) p ≡ started h → h ≡ b → length b ≤ room
        → says (at cs).tree (started_ticket num p) (started h) e ≡ cond (leb (length h) room) (writes (length h) h o) (refuses short_output (Some (started_ticket num p)))
        → told (at cs) (started_ticket num p) e ≡ writes (length b) b o
    writes_held cs p room h b o e c q l w =
        told_own (at cs) num p at_started (started h) e (kept cs).number_kept c refl
        ∙ (w ∙ (ap (λ (x : List ℕ). cond (leb (length x) room) (writes (length x) x o) (refuses short_output (Some (started_ticket num p)))) q
        ∙ cond-true (leb (length b) room) _ _ (le-leb (length b) room l)))

    holds : (cs : List Call) → OfSheet parent n word number (heard cs) → (p : ℕ) → standing p (heard cs) ≡ is_started → Held the_rack num tree parent n word number cs p
    holds cs O p e =
        let H = held_at cs p O e in
        record {
          node = H.fine.node;
          is_deepest = H.fine.deep;
          covers_it = λ room l. writes_held cs p room H.bytes_held _ (Some (started_ticket num p)) (covering room) H.cell_is H.fine.is_tag l refl;
          closes_it = λ room l. writes_held cs p room H.bytes_held _ None (closing room) H.cell_is H.fine.is_tag l refl;
        }

    wrote :
        (cs : List Call) (before later : History) (c : Call) (p k : ℕ) (b : List ℕ) (o : Option Ticket)
        → heard cs ≡ before ++ ((c, writes k b o) ∷ later) → names p c ≡ true → OfSheet parent n word number before
        → Written parent n word number before p k b
    wrote cs before later c p k b o q m O = go (cut cs (fresh num tree) before later (c, writes k b o) q)
      where
        go : Cut (fresh num tree) before (c, writes k b o) → Written parent n word number before p k b
        go C =
            let f : Fair (cell (at C.calls) p) (writes k b o) =
            subst (λ (a : Answer). Fair (cell (at C.calls) p) a) (sym (says_here (at C.calls) p c m) ∙ C.answer_is)
            (fair_place (at C.calls).number (at C.calls).tree (cell (at C.calls) p) c) in
            let g = fine_in _ _ b (good C.calls p (subst (λ (h : History). OfSheet parent n word number h) C.before_is O)) f.0 in
            subst (λ (h : History). Written parent n word number h p k b) (sym C.before_is)
            (record {
              node = g.node;
              is_deepest = g.deep;
              bytes_are = g.is_tag;
              length_is = f.1;
              was_started = stood num tree C.calls p ∙ ap stands_as f.0;
            })

    relates_nodes : (h k : List ℕ) (u v : ℕ) → 1 ≤ number → number ≤ most_number → u < n → v < n → h ≡ tg u → k ≡ tg v
        → related_or (label_of h) (label_of k) ≡ relates (related (label parent n word u) (label parent n word v))
    relates_nodes h k u v some small i j e f =
        let a : label_of h ≡ label parent n word u = ap (λ (x : List ℕ). label_of x) e ∙ (known word T L number some small u i).fields in
        let b : label_of k ≡ label parent n word v = ap (λ (x : List ℕ). label_of x) f ∙ (known word T L number some small v j).fields in
        (λ t. related_or (a t) (b t))
        ∙ ap (λ (w : Bool). cond w (refuses not_one_tree None) (relates (related (label parent n word u) (label parent n word v))))
        ((all_covers parent n word T L).no_clash u v i j)

    compares_on :
        (cs : List Call) → OfSheet parent n word number (heard cs) → (p q : ℕ) → standing p (heard cs) ≡ is_started → standing q (heard cs) ≡ is_started
        → Compared the_rack num tree parent n word number cs p q
    compares_on cs O p q e f =
        let G = held_at cs p O e in
        let H = held_at cs q O f in
        let k = G.fine.deep.inside in
        let l = H.fine.deep.inside in
        let M = (all_covers parent n word T L).there_is G.fine.node H.fine.node k l in
        let R = all_relates parent n word T L in
        record {
          first = G.fine.node;
          second = H.fine.node;
          both = M.0;
          first_is = G.fine.deep;
          second_is = H.fine.deep;
          both_is = M.1;
          found = related (label parent n word G.fine.node) (label parent n word H.fine.node);
          answer_is =
              compare_told (at cs) p q G.bytes_held H.bytes_held (kept cs).length_kept G.cell_is H.cell_is
              ∙ relates_nodes G.bytes_held H.bytes_held G.fine.node H.fine.node G.fine.some_number G.fine.small k l G.fine.is_tag H.fine.is_tag;
          relation_is = R.relation G.fine.node H.fine.node k l;
          deeper_is = R.deeper G.fine.node H.fine.node k l;
          steps_are = R.steps G.fine.node H.fine.node M.0 k l M.1;
        }

    starts_on :
        (cs : List Call) (p v : ℕ) → v < n → 1 ≤ number → tree ≡ number → standing p (heard cs) ≡ is_opened
        → answer (at cs) (starts (opened_ticket num p) (tg v)) ≡ hands (started_ticket num p)
    starts_on cs p v l k e z =
        told_own (at cs) num p at_opened opened (starting (tg v)) (kept cs).number_kept (opened_is _ (sym z ∙ stood num tree cs p)) refl
        ∙ ap (λ (x : Option Refusal). verdict x (opened_ticket num p) (hands (started_ticket num p)))
        (starts_fine parent n word T L number k (omega arith) (at cs).tree v l ((kept cs).tree_kept ∙ e))

    adds_on :
        (cs : List Call) → OfSheet parent n word number (heard cs) → (p v : ℕ) → v < n → standing p (heard cs) ≡ is_started
        → answer (at cs) (adds (started_ticket num p) (tg v)) ≡ hands (started_ticket num p)
    adds_on cs O p v l z =
        let H = held_at cs p O z in
        let g = H.fine in
        told_own (at cs) num p at_started (started H.bytes_held) (adding (tg v)) (kept cs).number_kept H.cell_is refl
        ∙ (ap (λ (x : List ℕ). verdict (add_fault (at cs).tree x (tg v)) (started_ticket num p) (hands (started_ticket num p))) g.is_tag
        ∙ ap (λ (x : Option Refusal). verdict x (started_ticket num p) (hands (started_ticket num p)))
        (adds_fine parent n word T L number g.some_number g.small (at cs).tree g.node v g.deep.inside l ((kept cs).tree_kept ∙ g.right)))

    on_sheet : OnSheet the_rack num tree parent n word number
    on_sheet = record { holds = holds; wrote = wrote; compared = compares_on; starts_on = starts_on; adds_on = adds_on }

pub promised : Promised
promised num tree k =
    record {
      on_sheet = on_sheet num tree k;
      isolated = isolation (fresh num tree) refl;
      opens_on = opens_on num tree k;
      opens_once = opens_once num tree k;
      guarded = guarded num tree k;
      unchanged = unchanged num tree k;
      handed_back = handed_back num tree k;
      readable = readable num tree k;
    }
