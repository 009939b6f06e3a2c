-- What the code's values are in the words of the model.
use Rattle.std.specs.Prelude.{ℕ, Bool, List, ◌++◌, map, take, drop, Some, None, Ok, Err, Result}
use Rattle.formats.specs.declared.answers.Related.{Related}
use Rattle.histories.specs.Model.{Cell, empty, opened, started, State, Ticket, Stage, opened_ticket, started_ticket, cell, fits, Refusal, no_such_place, not_empty, does_not_fit, not_started, in_tag, other_tree, not_one_tree, short_output, Answer, refuses, hands, writes, relates, spends}
use Rattle.racks.specs.declared.rack.Rack.{Rack}
use Rattle.racks.specs.declared.place.Place.{Place}
use Rattle.racks.specs.declared.place.Place.TheVariants.{Empty, Opened, Started}
use Rattle.racks.specs.declared.refusal.RackRefusal.{RackRefusal}
use Rattle.racks.specs.declared.refusal.RackRefusal.TheVariants.{NoSuchPlace, NotEmpty, DoesNotFit, NotStarted, InTag, OtherTree, NotOneTree, ShortOutput}
use Rattle.racks.specs.declared.refusal.Refused.{Refused}
use Rattle.racks.specs.declared.ticket.Opened.{Opened as ToOpened}
use Rattle.racks.specs.declared.ticket.Started.{Started as ToStarted}
use Rattle.racks.specs.declared.ticket.Ticket.{Ticket as TicketOf}
use Rattle.racks.specs.declared.ticket.AnyTicket.{AnyTicket}
use Rattle.racks.specs.declared.ticket.AnyTicket.TheVariants as either
use Rattle.racks.specs.Sound.{held_bytes}

-- the rack

abbrev pub cell_of : Place → Cell
cell_of Empty = empty
cell_of Opened = opened
cell_of (Started held) = started (held_bytes held)

abbrev pub state : ℕ → ℕ → List Place → State
state number tree places = record { number = number; tree = tree; cells = map cell_of places }

abbrev pub state_of : Rack → State
state_of r = state r.number r.tree r.places

-- tickets

abbrev pub OpenedTicket : Type 0
OpenedTicket = TicketOf ToOpened

abbrev pub StartedTicket : Type 0
StartedTicket = TicketOf ToStarted

abbrev pub opened_of : OpenedTicket → Ticket
opened_of t = opened_ticket t.rack t.place

abbrev pub started_of : StartedTicket → Ticket
started_of t = started_ticket t.rack t.place

abbrev pub ticket_of : AnyTicket → Ticket
ticket_of (either.Opened t) = opened_of t
ticket_of (either.Started t) = started_of t

-- a ticket of either kind, for the state that its kind stands for
abbrev pub named : {S : Type 0} → Stage → TicketOf S → Ticket
named stage t = record { rack = t.rack; place = t.place; stage = stage }

-- the ticket fits the rack
abbrev pub fitting : Rack → Ticket → Bool
fitting r t = fits r.number (cell (state_of r) t.place) t

-- refusals, case by case

abbrev pub refusal_of : RackRefusal → Refusal
refusal_of NoSuchPlace = no_such_place
refusal_of NotEmpty = not_empty
refusal_of DoesNotFit = does_not_fit
refusal_of NotStarted = not_started
refusal_of (InTag fault) = in_tag fault
refusal_of OtherTree = other_tree
refusal_of NotOneTree = not_one_tree
refusal_of ShortOutput = short_output

-- What each call gives back. A ticket that a call is only lent is in the caller's hand after it, refused or not.

abbrev pub open_said : Result OpenedTicket RackRefusal → Answer
open_said (Ok t) = hands (opened_of t)
open_said (Err why) = refuses (refusal_of why) None

abbrev pub start_said : Result StartedTicket (Refused OpenedTicket) → Answer
start_said (Ok t) = hands (started_of t)
start_said (Err e) = refuses (refusal_of e.why) (Some (opened_of e.ticket))

abbrev pub add_said : {X : Type 0} → StartedTicket → Result X RackRefusal → Answer
add_said t (Ok x) = hands (started_of t)
add_said t (Err why) = refuses (refusal_of why) (Some (started_of t))

-- the bytes that are written are the first of the output
abbrev pub cover_said : StartedTicket → Result ℕ RackRefusal → List ℕ → Answer
cover_said t (Ok n) out = writes n (take n out) (Some (started_of t))
cover_said t (Err why) out = refuses (refusal_of why) (Some (started_of t))

abbrev pub close_said : Result ℕ (Refused StartedTicket) → List ℕ → Answer
close_said (Ok n) out = writes n (take n out) None
close_said (Err e) out = refuses (refusal_of e.why) (Some (started_of e.ticket))

abbrev pub compare_said : Result Related RackRefusal → Answer
compare_said (Ok found) = relates found
compare_said (Err why) = refuses (refusal_of why) None

-- the output after a call with that answer: what is written, and then what stood there; as it was where nothing is written
abbrev pub output_of : Answer → List ℕ → List ℕ
output_of (refuses why back) old = old
output_of (hands t) old = old
output_of (writes n b back) old = b ++ drop n old
output_of (relates found) old = old
output_of (spends emptied) old = old
