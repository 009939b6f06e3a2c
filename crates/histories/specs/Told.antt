-- What calls and their answers say of a place. Nothing here looks at a rack's state.
use Rattle.std.specs.Prelude.{◌≡◌, ℕ, Bool, true, false, cond, not, ◌&&◌, ◌⊎◌, List, [], ◌∷◌, Some, None, Option, ◌==◌}
use Rattle.formats.specs.Theorems.{Bytes}
use Rattle.histories.specs.Model.{Ticket, Call, opens, starts, adds, covers, closes, compares, abandons, Answer, refuses, hands, writes, relates, spends}

-- calls with their answers, in order
abbrev pub History : Type 0
History = List (Call × Answer)

-- whether a call names a place, itself or by its ticket; compare is left out
abbrev pub names : ℕ → Call → Bool
names p (opens q) = q == p
names p (starts t b) = t.place == p
names p (adds t b) = t.place == p
names p (covers t room) = t.place == p
names p (closes t room) = t.place == p
names p (compares q r) = false
names p (abandons t) = t.place == p

-- the calls that name a place, and the part of a history that does
abbrev pub calls_at : ℕ → List Call → List Call
calls_at p [] = []
calls_at p (c ∷ cs) = cond (names p c) (c ∷ calls_at p cs) (calls_at p cs)

abbrev pub history_at : ℕ → History → History
history_at p [] = []
history_at p (e ∷ h) = cond (names p e.0) (e ∷ history_at p h) (history_at p h)

-- a call succeeds where it is not refused
abbrev pub granted : Answer → Bool
granted (refuses w back) = false
granted (hands t) = true
granted (writes k b back) = true
granted (relates r) = true
granted (spends b) = true

-- an abandon says so where it emptied the place
abbrev pub emptied : Answer → Bool
emptied (refuses w back) = false
emptied (hands t) = false
emptied (writes k b back) = false
emptied (relates r) = false
emptied (spends b) = b

-- A successful open makes a place opened, a successful start started; a successful close, or an abandon that says so, empties it;
-- nothing else changes its state.
pub data Standing : Type 0 where
  is_empty : Standing
  is_opened : Standing
  is_started : Standing

abbrev pub stands_after : ℕ → Standing → Call → Answer → Standing
stands_after p f (opens q) a = cond (q == p && granted a) is_opened f
stands_after p f (starts t b) a = cond (t.place == p && granted a) is_started f
stands_after p f (adds t b) a = f
stands_after p f (covers t room) a = f
stands_after p f (closes t room) a = cond (t.place == p && granted a) is_empty f
stands_after p f (compares q r) a = f
stands_after p f (abandons t) a = cond (t.place == p && emptied a) is_empty f

abbrev pub standing_from : ℕ → Standing → History → Standing
standing_from p f [] = f
standing_from p f (e ∷ h) = standing_from p (stands_after p f e.0 e.1) h

-- how a place of a new rack stands after a history
abbrev pub standing : ℕ → History → Standing
standing p h = standing_from p is_empty h

-- A place accepts the tag of each start and add that succeeds on it; a successful open begins anew. Newest first.
abbrev pub accepts : ℕ → List (List ℕ) → Call → Answer → List (List ℕ)
accepts p ts (opens q) a = cond (q == p && granted a) [] ts
accepts p ts (starts t b) a = cond (t.place == p && granted a) (b ∷ ts) ts
accepts p ts (adds t b) a = cond (t.place == p && granted a) (b ∷ ts) ts
accepts p ts (covers t room) a = ts
accepts p ts (closes t room) a = ts
accepts p ts (compares q r) a = ts
accepts p ts (abandons t) a = ts

abbrev pub accepted_from : ℕ → List (List ℕ) → History → List (List ℕ)
accepted_from p ts [] = ts
accepted_from p ts (e ∷ h) = accepted_from p (accepts p ts e.0 e.1) h

-- the tags that a place accepted since it was last opened
abbrev pub accepted : ℕ → History → List (List ℕ)
accepted p h = accepted_from p [] h

-- the tags accepted in a history, at any place, at any time
abbrev pub takes : Call → Answer → List (List ℕ) → List (List ℕ)
takes (opens q) a ts = ts
takes (starts t b) a ts = cond (granted a) (b ∷ ts) ts
takes (adds t b) a ts = cond (granted a) (b ∷ ts) ts
takes (covers t room) a ts = ts
takes (closes t room) a ts = ts
takes (compares q r) a ts = ts
takes (abandons t) a ts = ts

abbrev pub taken : History → List (List ℕ)
taken [] = []
taken (e ∷ h) = takes e.0 e.1 (taken h)

-- x is one of the list
abbrev pub In : List ℕ → List (List ℕ) → Type 0
In x [] = ⊥
In x (y ∷ ys) = (x ≡ y) ⊎ In x ys

-- the tag that a call brings in
abbrev pub tag_in : Call → List ℕ
tag_in (opens q) = []
tag_in (starts t b) = b
tag_in (adds t b) = b
tag_in (covers t room) = []
tag_in (closes t room) = []
tag_in (compares q r) = []
tag_in (abandons t) = []

-- every entry of every tag that comes in is a byte
abbrev pub AllBytes : List Call → Type 0
AllBytes [] = Unit {0}
AllBytes (c ∷ cs) = Bytes (tag_in c) × AllBytes cs

-- the ticket that a call is made with
abbrev pub ticket_of : Call → Option Ticket
ticket_of (opens q) = None
ticket_of (starts t b) = Some t
ticket_of (adds t b) = Some t
ticket_of (covers t room) = Some t
ticket_of (closes t room) = Some t
ticket_of (compares q r) = None
ticket_of (abandons t) = Some t

-- it is one of another rack
abbrev pub not_of : ℕ → Option Ticket → Bool
not_of num None = false
not_of num (Some t) = not (t.rack == num)

abbrev pub foreign : ℕ → Call → Bool
foreign num c = not_of num (ticket_of c)

-- a refusal, or an abandon that says that nothing was emptied
abbrev pub in_vain : Answer → Bool
in_vain (refuses w back) = true
in_vain (hands t) = false
in_vain (writes k b back) = false
in_vain (relates r) = false
in_vain (spends b) = not b
