-- A rack as a state, its seven calls, and what each call answers and leaves.
use Rattle.std.specs.Prelude.{ℕ, Bool, true, false, cond, not, ◌&&◌, List, [], ◌∷◌, length, replicate, Some, None, Option, ◌==◌, nat_le, nat_lt, slice_index_or, slice_set}
use Rattle.formats.specs.declared.fault.TagFault.{TagFault}
use Rattle.formats.specs.declared.answers.Part.{Part}
use Rattle.formats.specs.declared.answers.Related.{Related}
use Rattle.formats.specs.Label.{Label}
use Rattle.formats.specs.Layout.{tree_of}
use Rattle.formats.specs.Faults.{first_of, tag_fault}
use Rattle.formats.specs.Models.{label_of}
use Rattle.formats.specs.Numbers.{number_of}
use Rattle.formats.specs.Pairs.{clash, cover, side_of, related}
use Rattle.formats.specs.Cuts.{cut_tag}

-- the places of a rack are the numbers below this
abbrev pub place_count : ℕ
place_count = 16

-- a place: empty, opened, or started with the tag that it holds
pub data Cell : Type 0 where
  empty : Cell
  opened : Cell
  started : List ℕ → Cell

-- the state that a ticket names
pub data Stage : Type 0 where
  at_opened : Stage
  at_started : Stage

pub record Ticket : Type 0 where
  pub rack : ℕ
  pub place : ℕ
  pub stage : Stage

-- a call with what it is given; of the output to write to, its length
pub data Call : Type 0 where
  opens : ℕ → Call
  starts : Ticket → List ℕ → Call
  adds : Ticket → List ℕ → Call
  covers : Ticket → ℕ → Call
  closes : Ticket → ℕ → Call
  compares : ℕ → ℕ → Call
  abandons : Ticket → Call

-- why a call is refused
pub data Refusal : Type 0 where
  no_such_place : Refusal
  not_empty : Refusal
  does_not_fit : Refusal
  not_started : Refusal
  in_tag : TagFault → Refusal
  other_tree : Refusal
  not_one_tree : Refusal
  short_output : Refusal

-- the number under which a refusal is told: 13 to 19 are the tag's own
abbrev pub refusal_number : Refusal → ℕ
refusal_number no_such_place = 9
refusal_number not_empty = 10
refusal_number does_not_fit = 11
refusal_number not_started = 12
refusal_number (in_tag fault) = number_of fault
refusal_number other_tree = 20
refusal_number not_one_tree = 21
refusal_number short_output = 23

-- All that a call gives back: a refusal, with the ticket that the call was made with; the ticket that the caller has from now on; the
-- length and the bytes written, with the ticket if it is not spent; how two nodes stand to each other; whether abandon emptied the place.
pub data Answer : Type 0 where
  refuses : Refusal → Option Ticket → Answer
  hands : Ticket → Answer
  writes : ℕ → List ℕ → Option Ticket → Answer
  relates : Related → Answer
  spends : Bool → Answer

pub record State : Type 0 where
  pub number : ℕ
  pub tree : ℕ
  pub cells : List Cell

-- a new rack: the two numbers as they are given, and every place empty
abbrev pub fresh : ℕ → ℕ → State
fresh number tree = record { number = number; tree = tree; cells = replicate place_count empty }

-- a number that is no place is taken for an empty one
abbrev pub cell : State → ℕ → Cell
cell s p = slice_index_or s.cells p empty

abbrev pub put : State → ℕ → Cell → State
put s p c = record { number = s.number; tree = s.tree; cells = slice_set s.cells p c }

-- the tickets of a rack's place
abbrev pub opened_ticket : ℕ → ℕ → Ticket
opened_ticket number p = record { rack = number; place = p; stage = at_opened }

abbrev pub started_ticket : ℕ → ℕ → Ticket
started_ticket number p = record { rack = number; place = p; stage = at_started }

-- what an opened ticket is traded for
abbrev pub traded : Ticket → Ticket
traded t = started_ticket t.rack t.place

abbrev pub at_stage : Cell → Stage → Bool
at_stage empty k = false
at_stage opened at_opened = true
at_stage opened at_started = false
at_stage (started h) at_opened = false
at_stage (started h) at_started = true

-- a ticket fits where it names the rack's number and the state of the place
abbrev pub fits : ℕ → Cell → Ticket → Bool
fits number c t = t.rack == number && at_stage c t.stage

-- the refusals of a tag, the first that applies: its own fault, then the others
abbrev pub own_fault : Option TagFault → Option Refusal → Option Refusal
own_fault None rest = rest
own_fault (Some fault) rest = Some (in_tag fault)

unfoldable pub start_fault : ℕ → List ℕ → Option Refusal
start_fault tree b = own_fault (tag_fault b) (first_of ((not (tree == tree_of b), other_tree) ∷ []))

unfoldable pub add_fault : ℕ → List ℕ → List ℕ → Option Refusal
add_fault tree held b = own_fault (tag_fault b) (first_of (
    (not (tree == tree_of b), other_tree)
    ∷ (clash (label_of held) (label_of b), not_one_tree)
    ∷ []))

-- what a part names, cut out of its tag
abbrev pub part_of : Part → List ℕ → List ℕ → List ℕ
part_of p a b = cut_tag (side_of p.side a b) p.fields

-- the cover of the held tag and a new one, as a tag
unfoldable pub joined : List ℕ → List ℕ → List ℕ
joined held b = part_of (cover (label_of held) (label_of b)) held b

-- what becomes of a place, and what is answered, by whether there is a refusal
abbrev pub settled : Option Refusal → Cell → Cell → Cell
settled None new old = new
settled (Some w) new old = old

abbrev pub verdict : Option Refusal → Ticket → Answer → Answer
verdict None t a = a
verdict (Some w) t a = refuses w (Some t)

-- open, at one place: what becomes of it, and what is answered, with the ticket t to hand out
abbrev pub opened_from : Cell → Cell
opened_from empty = opened
opened_from opened = opened
opened_from (started h) = started h

abbrev pub open_says : Ticket → Cell → Answer
open_says t empty = hands t
open_says t opened = refuses not_empty None
open_says t (started h) = refuses not_empty None

-- what a call with a ticket puts to the ticket's place
pub data Event : Type 0 where
  starting : List ℕ → Event
  adding : List ℕ → Event
  covering : ℕ → Event
  closing : ℕ → Event
  abandoning : Event

-- what is answered to a ticket that does not fit, or that is for another state than the call is
abbrev pub misfit : Ticket → Event → Answer
misfit t (starting b) = refuses does_not_fit (Some t)
misfit t (adding b) = refuses does_not_fit (Some t)
misfit t (covering room) = refuses does_not_fit (Some t)
misfit t (closing room) = refuses does_not_fit (Some t)
misfit t abandoning = spends false

-- under a ticket that fits: what becomes of the place
abbrev pub next : ℕ → Cell → Event → Cell
next tree empty e = empty
next tree opened (starting b) = settled (start_fault tree b) (started b) opened
next tree opened (adding b) = opened
next tree opened (covering room) = opened
next tree opened (closing room) = opened
next tree opened abandoning = empty
next tree (started h) (starting b) = started h
next tree (started h) (adding b) = settled (add_fault tree h b) (started (joined h b)) (started h)
next tree (started h) (covering room) = started h
next tree (started h) (closing room) = cond (nat_le (length h) room) empty (started h)
next tree (started h) abandoning = empty

-- under a ticket t that fits: what is answered
abbrev pub says : ℕ → Ticket → Cell → Event → Answer
says tree t empty e = misfit t e
says tree t opened (starting b) = verdict (start_fault tree b) t (hands (traded t))
says tree t opened (adding b) = misfit t (adding b)
says tree t opened (covering room) = misfit t (covering room)
says tree t opened (closing room) = misfit t (closing room)
says tree t opened abandoning = spends true
says tree t (started h) (starting b) = misfit t (starting b)
says tree t (started h) (adding b) = verdict (add_fault tree h b) t (hands t)
says tree t (started h) (covering room) = cond (nat_le (length h) room) (writes (length h) h (Some t)) (refuses short_output (Some t))
says tree t (started h) (closing room) = cond (nat_le (length h) room) (writes (length h) h None) (refuses short_output (Some t))
says tree t (started h) abandoning = spends true

-- the same at the ticket's place, for any ticket
abbrev pub tried : State → Ticket → Event → State
tried s t e = cond (fits s.number (cell s t.place) t) (put s t.place (next s.tree (cell s t.place) e)) s

abbrev pub told : State → Ticket → Event → Answer
told s t e = cond (fits s.number (cell s t.place) t) (says s.tree t (cell s t.place) e) (misfit t e)

-- of two held tags
abbrev pub related_or : Label → Label → Answer
related_or l m = cond (clash l m) (refuses not_one_tree None) (relates (related l m))

abbrev pub compared : Cell → Cell → Answer
compared empty d = refuses not_started None
compared opened d = refuses not_started None
compared (started a) empty = refuses not_started None
compared (started a) opened = refuses not_started None
compared (started a) (started b) = related_or (label_of a) (label_of b)

-- the state after a call
abbrev pub after : State → Call → State
after s (opens p) = cond (nat_lt p place_count) (put s p (opened_from (cell s p))) s
after s (starts t b) = tried s t (starting b)
after s (adds t b) = tried s t (adding b)
after s (covers t room) = s
after s (closes t room) = tried s t (closing room)
after s (compares p q) = s
after s (abandons t) = tried s t abandoning

-- the answer to a call
abbrev pub answer : State → Call → Answer
answer s (opens p) = cond (nat_lt p place_count) (open_says (opened_ticket s.number p) (cell s p)) (refuses no_such_place None)
answer s (starts t b) = told s t (starting b)
answer s (adds t b) = told s t (adding b)
answer s (covers t room) = told s t (covering room)
answer s (closes t room) = told s t (closing room)
answer s (compares p q) = cond (nat_lt p place_count && nat_lt q place_count) (compared (cell s p) (cell s q)) (refuses no_such_place None)
answer s (abandons t) = told s t abandoning
