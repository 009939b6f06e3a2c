-- A call in vain changes nothing.
use Rattle.std.proofs.Common.{◌≡◌, ℕ, zero, suc, Bool, true, false, cond, ltb, leb, List, [], ◌∷◌, ◌++◌, length, get_or, set, Some, None, Option, sym, refl, ap, ◌∙◌}
use Rattle.std.proofs.lemmas.Bool.{false≢true}
use Rattle.histories.specs.Model.{Cell, empty, opened, started, State, Ticket, place_count, opened_ticket, traded, Call, opens, starts, adds, covers, closes, compares, abandons, Refusal, refuses, hands, writes, no_such_place, short_output, Event, opened_from, open_says, starting, adding, covering, closing, abandoning, start_fault, add_fault, settled, verdict, fits, cell, put, next, says, misfit, tried, told, after, answer}
use Rattle.histories.specs.Told.{in_vain}
use Rattle.histories.specs.Promises.{the_rack, run}

set_same : (cs : List Cell) (p : ℕ) → set cs p (get_or cs p empty) ≡ cs
set_same [] p = refl
set_same (c ∷ cs) zero = refl
set_same (c ∷ cs) (suc p) = ap (λ (xs : List Cell). c ∷ xs) (set_same cs p)

put_same : (s : State) (p : ℕ) (v : Cell) → v ≡ cell s p → put s p v ≡ s
put_same s p v e =
    ap (λ (x : Cell). put s p x) e
    ∙ ap (λ (xs : List Cell). record { number = s.number; tree = s.tree; cells = xs }) (set_same s.cells p)

vain_open : (t : Ticket) (v : Cell) → in_vain (open_says t v) ≡ true → opened_from v ≡ v
vain_open t empty f = absurd (false≢true f)
vain_open t opened f = refl
vain_open t (started h) f = refl

vain_next : (tree : ℕ) (t : Ticket) (v : Cell) (e : Event) → in_vain (says tree t v e) ≡ true → next tree v e ≡ v
vain_next tree t empty e f = refl
vain_next tree t opened (starting b) f = go (start_fault tree b) f
  where
    go : (o : Option Refusal) → in_vain (verdict o t (hands (traded t))) ≡ true → settled o (started b) opened ≡ opened
    go None f = absurd (false≢true f)
    go (Some r) f = refl
vain_next tree t opened (adding b) f = refl
vain_next tree t opened (covering room) f = refl
vain_next tree t opened (closing room) f = refl
vain_next tree t opened abandoning f = absurd (false≢true f)
vain_next tree t (started h) (starting b) f = refl
vain_next tree t (started h) (adding b) f = go (add_fault tree h b) _ f
  where
    go : (o : Option Refusal) (x : List ℕ) → in_vain (verdict o t (hands t)) ≡ true → settled o (started x) (started h) ≡ started h
    go None x f = absurd (false≢true f)
    go (Some r) x f = refl
vain_next tree t (started h) (covering room) f = refl
vain_next tree t (started h) (closing room) f = go (leb (length h) room) f
  where
    go : (o : Bool) → in_vain (cond o (writes (length h) h None) (refuses short_output (Some t))) ≡ true → cond o empty (started h) ≡ started h
    go true f = absurd (false≢true f)
    go false f = refl
vain_next tree t (started h) abandoning f = absurd (false≢true f)

vain_tried : (s : State) (t : Ticket) (e : Event) → in_vain (told s t e) ≡ true → tried s t e ≡ s
vain_tried s t e f = go (fits s.number (cell s t.place) t) f
  where
    go : (b : Bool) → in_vain (cond b (says s.tree t (cell s t.place) e) (misfit t e)) ≡ true
        → cond b (put s t.place (next s.tree (cell s t.place) e)) s ≡ s
    go true f = put_same s t.place _ (vain_next s.tree t (cell s t.place) e f)
    go false f = refl

pub vain_after : (s : State) (c : Call) → in_vain (answer s c) ≡ true → after s c ≡ s
vain_after s (opens p) f = go (ltb p place_count) f
  where
    go : (b : Bool) → in_vain (cond b (open_says (opened_ticket s.number p) (cell s p)) (refuses no_such_place None)) ≡ true
        → cond b (put s p (opened_from (cell s p))) s ≡ s
    go true f = put_same s p _ (vain_open (opened_ticket s.number p) (cell s p) f)
    go false f = refl
vain_after s (starts t b) f = vain_tried s t (starting b) f
vain_after s (adds t b) f = vain_tried s t (adding b) f
vain_after s (covers t room) f = refl
vain_after s (closes t room) f = vain_tried s t (closing room) f
vain_after s (compares p q) f = refl
vain_after s (abandons t) f = vain_tried s t abandoning f

run_on : (cs ds : List Call) (s : State) → run the_rack s (cs ++ ds) ≡ run the_rack (run the_rack s cs) ds
run_on [] ds s = refl
run_on (c ∷ cs) ds s = run_on cs ds (after s c)

pub vain_later : (cs ds : List Call) (c d : Call) (s : State) → in_vain (answer (run the_rack s cs) c) ≡ true
    → answer (run the_rack s (cs ++ (c ∷ ds))) d ≡ answer (run the_rack s (cs ++ ds)) d
vain_later cs ds c d s f =
    ap (λ (r : State). answer r d)
    (run_on cs (c ∷ ds) s ∙ (ap (λ (r : State). run the_rack r ds) (vain_after (run the_rack s cs) c f) ∙ sym (run_on cs ds s)))
