-- One place by itself: what the calls that name it answer and leave there.
use Rattle.std.proofs.Common.{◌≡◌, ℕ, zero, suc, Bool, true, false, cond, eqb, ltb, List, [], ◌∷◌, length, get_or, set, None, sym, refl, ap, ◌∙◌, subst, arith}
use Rattle.std.proofs.lemmas.List.{length-set, get_or-set_same, get_or-set_other}
use Rattle.std.proofs.lemmas.Bool.{eqb-true, eqb-false, ltb-true}
use Rattle.histories.specs.Model.{Cell, empty, State, Ticket, place_count, opened_ticket, Call, opens, starts, adds, covers, closes, compares, abandons, Answer, refuses, no_such_place, opened_from, open_says, Event, starting, adding, covering, closing, abandoning, fits, cell, put, next, says, misfit, tried, after, answer}
use Rattle.histories.specs.Told.{History, names, calls_at, history_at}
use Rattle.histories.specs.Promises.{the_rack, history}

-- what no call changes
pub record Kept (s s' : State) : Type 0 where
  pub number_kept : s'.number ≡ s.number
  pub tree_kept : s'.tree ≡ s.tree
  pub length_kept : length s'.cells ≡ length s.cells

pub same_kept : (s : State) → Kept s s
same_kept s = record { number_kept = refl; tree_kept = refl; length_kept = refl }

-- a call with a ticket at its place
abbrev pub lone : ℕ → ℕ → Cell → Ticket → Event → Answer
lone n tree v t e = cond (fits n v t) (says tree t v e) (misfit t e)

abbrev pub lone_next : ℕ → ℕ → Cell → Ticket → Event → Cell
lone_next n tree v t e = cond (fits n v t) (next tree v e) v

-- any call at the place that it names
abbrev pub place_says : ℕ → ℕ → Cell → Call → Answer
place_says n tree v (opens q) = cond (ltb q place_count) (open_says (opened_ticket n q) v) (refuses no_such_place None)
place_says n tree v (starts t b) = lone n tree v t (starting b)
place_says n tree v (adds t b) = lone n tree v t (adding b)
place_says n tree v (covers t room) = lone n tree v t (covering room)
place_says n tree v (closes t room) = lone n tree v t (closing room)
place_says n tree v (compares q r) = refuses no_such_place None
place_says n tree v (abandons t) = lone n tree v t abandoning

abbrev pub place_next : ℕ → ℕ → Cell → Call → Cell
place_next n tree v (opens q) = cond (ltb q place_count) (opened_from v) v
place_next n tree v (starts t b) = lone_next n tree v t (starting b)
place_next n tree v (adds t b) = lone_next n tree v t (adding b)
place_next n tree v (covers t room) = v
place_next n tree v (closes t room) = lone_next n tree v t (closing room)
place_next n tree v (compares q r) = v
place_next n tree v (abandons t) = lone_next n tree v t abandoning

cond_kept : (s : State) (p : ℕ) (v : Cell) (b : Bool) → Kept s (cond b (put s p v) s)
cond_kept s p v true = record { number_kept = refl; tree_kept = refl; length_kept = length-set s.cells p v }
cond_kept s p v false = same_kept s

tried_kept : (s : State) (t : Ticket) (e : Event) → Kept s (tried s t e)
tried_kept s t e = cond_kept s t.place _ (fits s.number (cell s t.place) t)

pub after_kept : (s : State) (c : Call) → Kept s (after s c)
after_kept s (opens q) = cond_kept s q _ (ltb q place_count)
after_kept s (starts t b) = tried_kept s t (starting b)
after_kept s (adds t b) = tried_kept s t (adding b)
after_kept s (covers t room) = same_kept s
after_kept s (closes t room) = tried_kept s t (closing room)
after_kept s (compares q r) = same_kept s
after_kept s (abandons t) = tried_kept s t abandoning

-- the answer at a place that is named
pub says_here : (s : State) (p : ℕ) (c : Call) → names p c ≡ true → answer s c ≡ place_says s.number s.tree (cell s p) c
says_here s p (opens q) e = ap (λ (x : ℕ). place_says s.number s.tree (cell s x) (opens q)) (eqb-true q p e)
says_here s p (starts t b) e = ap (λ (x : ℕ). place_says s.number s.tree (cell s x) (starts t b)) (eqb-true t.place p e)
says_here s p (adds t b) e = ap (λ (x : ℕ). place_says s.number s.tree (cell s x) (adds t b)) (eqb-true t.place p e)
says_here s p (covers t room) e = ap (λ (x : ℕ). place_says s.number s.tree (cell s x) (covers t room)) (eqb-true t.place p e)
says_here s p (closes t room) e = ap (λ (x : ℕ). place_says s.number s.tree (cell s x) (closes t room)) (eqb-true t.place p e)
says_here s p (compares q r) e = cc
says_here s p (abandons t) e = ap (λ (x : ℕ). place_says s.number s.tree (cell s x) (abandons t)) (eqb-true t.place p e)

-- what is left at a place that is named
set_here : (cs : List Cell) (p : ℕ) (f : Cell → Cell) → f empty ≡ empty → get_or (set cs p (f (get_or cs p empty))) p empty ≡ f (get_or cs p empty)
set_here [] p f e = sym e
set_here (x ∷ cs) zero f e = refl
set_here (x ∷ cs) (suc p) f e = set_here cs p f e

tried_here : (s : State) (t : Ticket) (e : Event) → cell (tried s t e) t.place ≡ lone_next s.number s.tree (cell s t.place) t e
tried_here s t e = go (fits s.number (cell s t.place) t)
  where
    go : (b : Bool) → cell (cond b (put s t.place (next s.tree (cell s t.place) e)) s) t.place ≡ cond b (next s.tree (cell s t.place) e) (cell s t.place)
    go true = set_here s.cells t.place (λ (v : Cell). next s.tree v e) refl
    go false = refl

open_here : (s : State) (q : ℕ) → length s.cells ≡ place_count → cell (after s (opens q)) q ≡ place_next s.number s.tree (cell s q) (opens q)
open_here s q l = go (ltb q place_count) refl
  where
    go : (b : Bool) → ltb q place_count ≡ b → cell (cond b (put s q (opened_from (cell s q))) s) q ≡ cond b (opened_from (cell s q)) (cell s q)
    go true e = get_or-set_same s.cells q _ empty (omega (arith, ltb-true q place_count e))
    go false e = refl

moved : (s : State) (c : Call) (q p : ℕ) → eqb q p ≡ true → cell (after s c) q ≡ place_next s.number s.tree (cell s q) c → cell (after s c) p ≡ place_next s.number s.tree (cell s p) c
moved s c q p e h = subst (λ (x : ℕ). cell (after s c) x ≡ place_next s.number s.tree (cell s x) c) (eqb-true q p e) h

pub next_here : (s : State) (p : ℕ) (c : Call) → length s.cells ≡ place_count → names p c ≡ true → cell (after s c) p ≡ place_next s.number s.tree (cell s p) c
next_here s p (opens q) l e = moved s (opens q) q p e (open_here s q l)
next_here s p (starts t b) l e = moved s (starts t b) t.place p e (tried_here s t (starting b))
next_here s p (adds t b) l e = moved s (adds t b) t.place p e (tried_here s t (adding b))
next_here s p (covers t room) l e = refl
next_here s p (closes t room) l e = moved s (closes t room) t.place p e (tried_here s t (closing room))
next_here s p (compares q r) l e = refl
next_here s p (abandons t) l e = moved s (abandons t) t.place p e (tried_here s t abandoning)

-- what is left at a place that is not named
cond_there : (s : State) (q p : ℕ) (v : Cell) (b : Bool) → eqb q p ≡ false → cell (cond b (put s q v) s) p ≡ cell s p
cond_there s q p v true e = get_or-set_other s.cells q p v empty (λ z. eqb-false q p e (sym z))
cond_there s q p v false e = refl

tried_there : (s : State) (t : Ticket) (e : Event) (p : ℕ) → eqb t.place p ≡ false → cell (tried s t e) p ≡ cell s p
tried_there s t e p d = cond_there s t.place p _ (fits s.number (cell s t.place) t) d

pub next_there : (s : State) (p : ℕ) (c : Call) → names p c ≡ false → cell (after s c) p ≡ cell s p
next_there s p (opens q) e = cond_there s q p _ (ltb q place_count) e
next_there s p (starts t b) e = tried_there s t (starting b) p e
next_there s p (adds t b) e = tried_there s t (adding b) p e
next_there s p (covers t room) e = refl
next_there s p (closes t room) e = tried_there s t (closing room) p e
next_there s p (compares q r) e = refl
next_there s p (abandons t) e = tried_there s t abandoning p e

-- the history of one place by itself
abbrev place_history : ℕ → ℕ → Cell → List Call → History
place_history n tree v [] = []
place_history n tree v (c ∷ cs) = (c, place_says n tree v c) ∷ place_history n tree (place_next n tree v c) cs

same_history : (n n' t t' : ℕ) (v v' : Cell) (cs : List Call) → n' ≡ n → t' ≡ t → v' ≡ v → place_history n' t' v' cs ≡ place_history n t v cs
same_history n n' t t' v v' cs en et ev =
    ap (λ (x : ℕ). place_history x t' v' cs) en ∙ (ap (λ (x : ℕ). place_history n x v' cs) et ∙ ap (λ (x : Cell). place_history n t x cs) ev)

by_place : (cs : List Call) (s : State) (p : ℕ) → length s.cells ≡ place_count → history_at p (history the_rack s cs) ≡ place_history s.number s.tree (cell s p) (calls_at p cs)
by_place [] s p l = refl
by_place (c ∷ cs) s p l = go (names p c) refl (by_place cs (after s c) p ((after_kept s c).length_kept ∙ l))
  where
    go : (b : Bool) → names p c ≡ b
        → history_at p (history the_rack (after s c) cs) ≡ place_history (after s c).number (after s c).tree (cell (after s c) p) (calls_at p cs)
        → cond b ((c, answer s c) ∷ history_at p (history the_rack (after s c) cs)) (history_at p (history the_rack (after s c) cs))
        ≡ place_history s.number s.tree (cell s p) (cond b (c ∷ calls_at p cs) (calls_at p cs))
    go true e ih =
        ap (λ (a : Answer). (c, a) ∷ history_at p (history the_rack (after s c) cs)) (says_here s p c e)
        ∙ ap (λ (h : History). (c, place_says s.number s.tree (cell s p) c) ∷ h)
        (ih ∙ same_history s.number (after s c).number s.tree (after s c).tree _ (cell (after s c) p) (calls_at p cs)
        (after_kept s c).number_kept (after_kept s c).tree_kept (next_here s p c l e))
    go false e ih =
        ih ∙ same_history s.number (after s c).number s.tree (after s c).tree _ (cell (after s c) p) (calls_at p cs)
        (after_kept s c).number_kept (after_kept s c).tree_kept (next_there s p c e)

abbrev pub Isolate : State → Type 0
Isolate s = (p : ℕ) (cs ds : List Call) → calls_at p cs ≡ calls_at p ds → history_at p (history the_rack s cs) ≡ history_at p (history the_rack s ds)

pub isolation : (s : State) → length s.cells ≡ place_count → Isolate s
isolation s l p cs ds e = by_place cs s p l ∙ (ap (λ (xs : List Call). place_history s.number s.tree (cell s p) xs) e ∙ sym (by_place ds s p l))
