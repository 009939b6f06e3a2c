-- Racks that are wrong, each in one way, and that break the promises; and an example in which the promises have something to say.
use Rattle.std.specs.Prelude.{◌≡◌, ℕ, suc, ◌≤◌, List, [], ◌∷◌, length, Some, None, Option}
use Rattle.trees.specs.Tree.{Tree}
use Rattle.codes.specs.Gilbert.{gilbert_moore}
use Rattle.codes.specs.Coding.{Lawful}
use Rattle.labels.specs.Sheet.{tag}
use Rattle.labels.specs.Small.{small_parent}
use Rattle.histories.specs.Model.{Cell, empty, opened, started, State, Ticket, opened_ticket, started_ticket, Call, opens, starts, adds, covers, closes, compares, abandons, not_empty, short_output, Answer, refuses, hands, writes, relates, spends, cell, joined, after, answer, fresh}
use Rattle.histories.specs.Told.{standing, is_started}
use Rattle.histories.specs.Promises.{Machine, Promises, the_rack, told_by, answers, OfSheet}

-- one that keeps its first tag
abbrev pub then_first : State → Call → State
then_first s (opens p) = after s (opens p)
then_first s (starts t b) = after s (starts t b)
then_first s (adds t b) = s
then_first s (covers t room) = after s (covers t room)
then_first s (closes t room) = after s (closes t room)
then_first s (compares p q) = after s (compares p q)
then_first s (abandons t) = after s (abandons t)

abbrev pub first_kept : Machine
first_kept = record { Inside = State; new = fresh; says = answer; then = then_first }

-- one that forgets to forget: what a place held when it was abandoned still counts at the next start
abbrev pub left_in : Cell → Option (List ℕ)
left_in empty = None
left_in opened = None
left_in (started h) = Some h

abbrev pub merged : Option (List ℕ) → List ℕ → List ℕ
merged None b = b
merged (Some h) b = joined h b

abbrev pub says_old : State × Option (List ℕ) → Call → Answer
says_old x (opens p) = answer x.0 (opens p)
says_old x (starts t b) = answer x.0 (starts t (merged x.1 b))
says_old x (adds t b) = answer x.0 (adds t b)
says_old x (covers t room) = answer x.0 (covers t room)
says_old x (closes t room) = answer x.0 (closes t room)
says_old x (compares p q) = answer x.0 (compares p q)
says_old x (abandons t) = answer x.0 (abandons t)

abbrev pub then_old : State × Option (List ℕ) → Call → State × Option (List ℕ)
then_old x (opens p) = (after x.0 (opens p), x.1)
then_old x (starts t b) = (after x.0 (starts t (merged x.1 b)), None)
then_old x (adds t b) = (after x.0 (adds t b), x.1)
then_old x (covers t room) = (after x.0 (covers t room), x.1)
then_old x (closes t room) = (after x.0 (closes t room), x.1)
then_old x (compares p q) = (after x.0 (compares p q), x.1)
then_old x (abandons t) = (after x.0 (abandons t), left_in (cell x.0 t.place))

abbrev pub unforgetting : Machine
unforgetting = record { Inside = State × Option (List ℕ); new = λ num tree. (fresh num tree, None); says = says_old; then = then_old }

-- one that answers compare with its sides exchanged
abbrev pub exchanged : Call → Call
exchanged (opens p) = opens p
exchanged (starts t b) = starts t b
exchanged (adds t b) = adds t b
exchanged (covers t room) = covers t room
exchanged (closes t room) = closes t room
exchanged (compares p q) = compares q p
exchanged (abandons t) = abandons t

abbrev pub swapped : Machine
swapped = record { Inside = State; new = fresh; says = λ s c. answer s (exchanged c); then = after }

-- one that makes up a step
abbrev pub one_more : Answer → Answer
one_more (refuses w back) = refuses w back
one_more (hands t) = hands t
one_more (writes k b back) = writes k b back
one_more (relates r) = relates (record { relation = r.relation; deeper = r.deeper; steps = suc r.steps })
one_more (spends b) = spends b

abbrev pub made_up : Machine
made_up = record { Inside = State; new = fresh; says = λ s c. one_more (answer s c); then = after }

-- one whose refusals look at place 0: while that is opened, every refusal is told as 23
abbrev pub looked : Cell → Answer → Answer
looked empty a = a
looked (started h) a = a
looked opened (refuses w back) = refuses short_output back
looked opened (hands t) = hands t
looked opened (writes k b back) = writes k b back
looked opened (relates r) = relates r
looked opened (spends b) = spends b

abbrev pub looking : Machine
looking = record { Inside = State; new = fresh; says = λ s c. looked (cell s 0) (answer s c); then = after }

-- one that refuses an add with another rack's ticket, but follows it
abbrev pub then_anyway : State → Call → State
then_anyway s (opens p) = after s (opens p)
then_anyway s (starts t b) = after s (starts t b)
then_anyway s (adds t b) = after s (adds (started_ticket s.number t.place) b)
then_anyway s (covers t room) = after s (covers t room)
then_anyway s (closes t room) = after s (closes t room)
then_anyway s (compares p q) = after s (compares p q)
then_anyway s (abandons t) = after s (abandons t)

abbrev pub anyway : Machine
anyway = record { Inside = State; new = fresh; says = answer; then = then_anyway }

-- one that does not look at a ticket's rack number
abbrev pub renamed : ℕ → Ticket → Ticket
renamed num t = record { rack = num; place = t.place; stage = t.stage }

abbrev pub taken_for : ℕ → Call → Call
taken_for num (opens p) = opens p
taken_for num (starts t b) = starts (renamed num t) b
taken_for num (adds t b) = adds (renamed num t) b
taken_for num (covers t room) = covers (renamed num t) room
taken_for num (closes t room) = closes (renamed num t) room
taken_for num (compares p q) = compares p q
taken_for num (abandons t) = abandons (renamed num t)

abbrev pub careless : Machine
careless = record { Inside = State; new = fresh; says = λ s c. answer s (taken_for s.number c); then = λ s c. after s (taken_for s.number c) }

-- one that never opens
abbrev pub says_shut : State → Call → Answer
says_shut s (opens p) = refuses not_empty None
says_shut s (starts t b) = answer s (starts t b)
says_shut s (adds t b) = answer s (adds t b)
says_shut s (covers t room) = answer s (covers t room)
says_shut s (closes t room) = answer s (closes t room)
says_shut s (compares p q) = answer s (compares p q)
says_shut s (abandons t) = answer s (abandons t)

abbrev pub shut : Machine
shut = record { Inside = State; new = fresh; says = says_shut; then = after }

-- one that hands out a place twice
abbrev pub says_twice : State → Call → Answer
says_twice s (opens p) = hands (opened_ticket s.number p)
says_twice s (starts t b) = answer s (starts t b)
says_twice s (adds t b) = answer s (adds t b)
says_twice s (covers t room) = answer s (covers t room)
says_twice s (closes t room) = answer s (closes t room)
says_twice s (compares p q) = answer s (compares p q)
says_twice s (abandons t) = answer s (abandons t)

abbrev pub sharing : Machine
sharing = record { Inside = State; new = fresh; says = says_twice; then = after }

-- one that keeps the ticket of a refused call
abbrev pub ticketless : Answer → Answer
ticketless (refuses w back) = refuses w None
ticketless (hands t) = hands t
ticketless (writes k b back) = writes k b back
ticketless (relates r) = relates r
ticketless (spends b) = spends b

abbrev pub grasping : Machine
grasping = record { Inside = State; new = fresh; says = λ s c. ticketless (answer s c); then = after }

-- none of them keeps the promises, with rack number 1 and tree number 7
pub record WrongRacks : Type 0 where
  pub no_first_kept : Promises first_kept 1 7 → ⊥
  pub no_unforgetting : Promises unforgetting 1 7 → ⊥
  pub no_swapped : Promises swapped 1 7 → ⊥
  pub no_made_up : Promises made_up 1 7 → ⊥
  pub no_looking : Promises looking 1 7 → ⊥
  pub no_anyway : Promises anyway 1 7 → ⊥
  pub no_careless : Promises careless 1 7 → ⊥
  pub no_shut : Promises shut 1 7 → ⊥
  pub no_sharing : Promises sharing 1 7 → ⊥
  pub no_grasping : Promises grasping 1 7 → ⊥

-- the tags of the small tree of levels 0, 1, 2, 2, 1, 2 under tree number 7
abbrev pub small_tag : ℕ → List ℕ
small_tag v = tag small_parent 6 gilbert_moore 7 v

-- a place is opened, started with node 2 and given nodes 3 and 5
abbrev pub four_calls : List Call
four_calls =
    opens 0 ∷ starts (opened_ticket 1 0) (small_tag 2) ∷ adds (started_ticket 1 0) (small_tag 3) ∷ adds (started_ticket 1 0) (small_tag 5) ∷ []

-- What the promises suppose can be met: the place is then started, every tag accepted is of the sheet, and a cover writes the root's tag.
pub record Happens : Type 0 where
  pub is_tree : Tree small_parent 6
  pub is_lawful : Lawful gilbert_moore
  pub is_started_then : standing 0 (told_by the_rack 1 7 four_calls) ≡ is_started
  pub all_of_sheet : OfSheet small_parent 6 gilbert_moore 7 (told_by the_rack 1 7 four_calls)
  pub writes_root :
      (room : ℕ) → length (small_tag 0) ≤ room
      → answers the_rack 1 7 four_calls (covers (started_ticket 1 0) room) ≡ writes (length (small_tag 0)) (small_tag 0) (Some (started_ticket 1 0))
