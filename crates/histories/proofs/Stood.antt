-- How a place stands, by calls and answers, is how it is.
use Rattle.std.proofs.Common.{◌≡◌, ℕ, zero, suc, Bool, true, false, cond, ◌&&◌, ltb, leb, List, [], ◌∷◌, length, get_or, replicate, Some, None, Option, sym, refl, ap, ◌∙◌}
use Rattle.histories.specs.Model.{Cell, empty, opened, started, State, Ticket, place_count, opened_ticket, traded, Call, opens, starts, adds, covers, closes, compares, abandons, Refusal, Answer, refuses, hands, writes, no_such_place, short_output, opened_from, open_says, starting, adding, closing, abandoning, start_fault, add_fault, settled, verdict, fits, cell, next, says, misfit, after, answer, fresh}
use Rattle.histories.specs.Told.{names, granted, emptied, Standing, is_empty, is_opened, is_started, stands_after, standing_from, standing}
use Rattle.histories.specs.Promises.{the_rack, history, run}
use Rattle.histories.proofs.Local.{place_says, place_next, says_here, next_here, next_there, Kept, same_kept, after_kept}

abbrev pub stands_as : Cell → Standing
stands_as empty = is_empty
stands_as opened = is_opened
stands_as (started h) = is_started

-- what a call that names the place does to its standing
abbrev pub place_stands : Standing → Call → Answer → Standing
place_stands f (opens q) a = cond (granted a) is_opened f
place_stands f (starts t b) a = cond (granted a) is_started f
place_stands f (adds t b) a = f
place_stands f (covers t room) a = f
place_stands f (closes t room) a = cond (granted a) is_empty f
place_stands f (compares q r) a = f
place_stands f (abandons t) a = cond (emptied a) is_empty f

stands_here : (p : ℕ) (f : Standing) (c : Call) (a : Answer) → names p c ≡ true → stands_after p f c a ≡ place_stands f c a
stands_here p f (opens q) a e = ap (λ (v : Bool). cond (v && granted a) is_opened f) e
stands_here p f (starts t b) a e = ap (λ (v : Bool). cond (v && granted a) is_started f) e
stands_here p f (adds t b) a e = refl
stands_here p f (covers t room) a e = refl
stands_here p f (closes t room) a e = ap (λ (v : Bool). cond (v && granted a) is_empty f) e
stands_here p f (compares q r) a e = refl
stands_here p f (abandons t) a e = ap (λ (v : Bool). cond (v && emptied a) is_empty f) e

stands_there : (p : ℕ) (f : Standing) (c : Call) (a : Answer) → names p c ≡ false → stands_after p f c a ≡ f
stands_there p f (opens q) a e = ap (λ (v : Bool). cond (v && granted a) is_opened f) e
stands_there p f (starts t b) a e = ap (λ (v : Bool). cond (v && granted a) is_started f) e
stands_there p f (adds t b) a e = refl
stands_there p f (covers t room) a e = refl
stands_there p f (closes t room) a e = ap (λ (v : Bool). cond (v && granted a) is_empty f) e
stands_there p f (compares q r) a e = refl
stands_there p f (abandons t) a e = ap (λ (v : Bool). cond (v && emptied a) is_empty f) e

-- one call at the place that it names
stood_open : (t : Ticket) (v : Cell) (w : Bool)
    → cond (granted (cond w (open_says t v) (refuses no_such_place None))) is_opened (stands_as v) ≡ stands_as (cond w (opened_from v) v)
stood_open t v false = refl
stood_open t empty true = refl
stood_open t opened true = refl
stood_open t (started h) true = refl

stood_start : (tree : ℕ) (t : Ticket) (b : List ℕ) (v : Cell) (w : Bool)
    → cond (granted (cond w (says tree t v (starting b)) (misfit t (starting b)))) is_started (stands_as v) ≡ stands_as (cond w (next tree v (starting b)) v)
stood_start tree t b v false = refl
stood_start tree t b empty true = refl
stood_start tree t b opened true = go (start_fault tree b)
  where
    go : (o : Option Refusal) → cond (granted (verdict o t (hands (traded t)))) is_started is_opened ≡ stands_as (settled o (started b) opened)
    go None = refl
    go (Some r) = refl
stood_start tree t b (started h) true = refl

stood_add : (tree : ℕ) (b : List ℕ) (v : Cell) (w : Bool) → stands_as v ≡ stands_as (cond w (next tree v (adding b)) v)
stood_add tree b v false = refl
stood_add tree b empty true = refl
stood_add tree b opened true = refl
stood_add tree b (started h) true = go (add_fault tree h b) _
  where
    go : (o : Option Refusal) (x : List ℕ) → is_started ≡ stands_as (settled o (started x) (started h))
    go None x = refl
    go (Some r) x = refl

stood_close : (tree room : ℕ) (t : Ticket) (v : Cell) (w : Bool)
    → cond (granted (cond w (says tree t v (closing room)) (misfit t (closing room)))) is_empty (stands_as v) ≡ stands_as (cond w (next tree v (closing room)) v)
stood_close tree room t v false = refl
stood_close tree room t empty true = refl
stood_close tree room t opened true = refl
stood_close tree room t (started h) true = go (leb (length h) room)
  where
    go : (o : Bool) → cond (granted (cond o (writes (length h) h None) (refuses short_output (Some t)))) is_empty is_started ≡ stands_as (cond o empty (started h))
    go true = refl
    go false = refl

stood_abandon : (tree : ℕ) (t : Ticket) (v : Cell) (w : Bool)
    → cond (emptied (cond w (says tree t v abandoning) (misfit t abandoning))) is_empty (stands_as v) ≡ stands_as (cond w (next tree v abandoning) v)
stood_abandon tree t empty true = refl
stood_abandon tree t opened true = refl
stood_abandon tree t (started h) true = refl
stood_abandon tree t v false = refl

stood_next : (num tree : ℕ) (v : Cell) (c : Call) → place_stands (stands_as v) c (place_says num tree v c) ≡ stands_as (place_next num tree v c)
stood_next num tree v (opens q) = stood_open (opened_ticket num q) v (ltb q place_count)
stood_next num tree v (starts t b) = stood_start tree t b v (fits num v t)
stood_next num tree v (adds t b) = stood_add tree b v (fits num v t)
stood_next num tree v (covers t room) = refl
stood_next num tree v (closes t room) = stood_close tree room t v (fits num v t)
stood_next num tree v (compares q r) = refl
stood_next num tree v (abandons t) = stood_abandon tree t v (fits num v t)

stood_after : (s : State) (p : ℕ) (c : Call) → length s.cells ≡ place_count → stands_after p (stands_as (cell s p)) c (answer s c) ≡ stands_as (cell (after s c) p)
stood_after s p c l = go (names p c) refl
  where
    go : (b : Bool) → names p c ≡ b → stands_after p (stands_as (cell s p)) c (answer s c) ≡ stands_as (cell (after s c) p)
    go true e =
        stands_here p (stands_as (cell s p)) c (answer s c) e
        ∙ (ap (λ (a : Answer). place_stands (stands_as (cell s p)) c a) (says_here s p c e)
        ∙ (stood_next s.number s.tree (cell s p) c ∙ ap stands_as (sym (next_here s p c l e))))
    go false e = stands_there p (stands_as (cell s p)) c (answer s c) e ∙ ap stands_as (sym (next_there s p c e))

stood_run : (cs : List Call) (s : State) (p : ℕ) → length s.cells ≡ place_count
    → standing_from p (stands_as (cell s p)) (history the_rack s cs) ≡ stands_as (cell (run the_rack s cs) p)
stood_run [] s p l = refl
stood_run (c ∷ cs) s p l =
    ap (λ (f : Standing). standing_from p f (history the_rack (after s c) cs)) (stood_after s p c l)
    ∙ stood_run cs (after s c) p ((after_kept s c).length_kept ∙ l)

-- a place of a new rack
all_empty : (n p : ℕ) → get_or (replicate n empty) p empty ≡ empty
all_empty zero p = refl
all_empty (suc n) zero = refl
all_empty (suc n) (suc p) = all_empty n p

pub fresh_cell : (num tree p : ℕ) → cell (fresh num tree) p ≡ empty
fresh_cell num tree p = all_empty place_count p

pub stood : (num tree : ℕ) (cs : List Call) (p : ℕ) → standing p (history the_rack (fresh num tree) cs) ≡ stands_as (cell (run the_rack (fresh num tree) cs) p)
stood num tree cs p =
    ap (λ (v : Cell). standing_from p (stands_as v) (history the_rack (fresh num tree) cs)) (sym (fresh_cell num tree p))
    ∙ stood_run cs (fresh num tree) p refl

-- what a whole list of calls does not change
pub run_kept : (cs : List Call) (s : State) → Kept s (run the_rack s cs)
run_kept [] s = same_kept s
run_kept (c ∷ cs) s =
    let a = after_kept s c in
    let b = run_kept cs (after s c) in
    record { number_kept = b.number_kept ∙ a.number_kept; tree_kept = b.tree_kept ∙ a.tree_kept; length_kept = b.length_kept ∙ a.length_kept }
