-- The promises of a rack, over every list of calls. They speak of calls and answers alone: what a rack is inside is left open.
use Rattle.std.specs.Prelude.{◌≡◌, ℕ, ◌+◌, ◌*◌, ◌<◌, ◌≤◌, true, List, [], ◌∷◌, ◌++◌, length, Some, None, Option}
use Rattle.std.proofs.Math.IntN.{sub_ℕ}
use Rattle.trees.specs.Tree.{Tree}
use Rattle.trees.specs.Above.{AtOrAbove, depth_of}
use Rattle.trees.specs.Deepest.{Deepest}
use Rattle.codes.specs.declared.word.Word.{Word}
use Rattle.codes.specs.Coding.{Lawful}
use Rattle.formats.specs.declared.answers.Related.{Related}
use Rattle.formats.specs.Limits.{most_number}
use Rattle.formats.specs.Layout.{tree_of}
use Rattle.formats.specs.Theorems.{Reads}
use Rattle.labels.specs.Sheet.{tag}
use Rattle.labels.specs.Covers.{Stands}
use Rattle.histories.specs.Model.{Ticket, State, place_count, opened_ticket, started_ticket, Call, opens, starts, adds, covers, closes, compares, Refusal, Answer, refuses, hands, writes, relates, after, answer, fresh}
use Rattle.histories.specs.Told.{History, names, calls_at, history_at, is_empty, is_opened, is_started, standing, accepted, taken, In, AllBytes, ticket_of, foreign, in_vain}

-- whatever answers calls: what it is inside, what it is when new (with a rack number and a tree number), what it answers, and what it
-- is after that
pub record Machine : Type 1 where
  pub Inside : Type 0
  pub new : ℕ → ℕ → Inside
  pub says : Inside → Call → Answer
  pub then : Inside → Call → Inside

-- the sheet of one tree, under one code and one tree number
module _ (parent : ℕ → Option ℕ) (n : ℕ) (word : List ℕ → ℕ → Word) (number : ℕ) where
  -- every tag accepted in a history is the tag of a node
  abbrev pub OfSheet : History → Type 0
  OfSheet h = (b : List ℕ) → In b (taken h) → (v : ℕ) × (v < n) × (b ≡ tag parent n word number v)

  -- d is at or above every node whose tag is among ts, and every node at or above all of those is at or above d
  pub record DeepestOf (ts : List (List ℕ)) (d : ℕ) : Type 0 where
    pub inside : d < n
    pub above : (v : ℕ) → v < n → In (tag parent n word number v) ts → AtOrAbove parent d v
    pub deepest : (e : ℕ) → ((v : ℕ) → v < n → In (tag parent n word number v) ts → AtOrAbove parent e v) → AtOrAbove parent e d

  -- b, said to be k bytes, is the tag of the deepest node for what p had accepted by then
  pub record Written (h : History) (p k : ℕ) (b : List ℕ) : Type 0 where
    pub node : ℕ
    pub is_deepest : DeepestOf (accepted p h) node
    pub bytes_are : b ≡ tag parent n word number node
    pub length_is : k ≡ length b
    pub was_started : standing p h ≡ is_started

module _ (M : Machine) where
  -- the calls with their answers
  abbrev pub history : M.Inside → List Call → History
  history s [] = []
  history s (c ∷ cs) = (c, M.says s c) ∷ history (M.then s c) cs

  abbrev pub run : M.Inside → List Call → M.Inside
  run s [] = s
  run s (c ∷ cs) = run (M.then s c) cs

  -- of a new rack with the rack number num and the tree number tree
  module _ (num tree : ℕ) where
    abbrev pub told_by : List Call → History
    told_by cs = history (M.new num tree) cs

    -- the answer to one more call
    abbrev pub answers : List Call → Call → Answer
    answers cs c = M.says (run (M.new num tree) cs) c

    module _ (parent : ℕ → Option ℕ) (n : ℕ) (word : List ℕ → ℕ → Word) (number : ℕ) where
      -- What place p holds after the calls cs is the tag of the deepest node for what it accepted:
      -- a cover or a close with the place's ticket and room enough writes it.
      pub record Held (cs : List Call) (p : ℕ) : Type 0 where
        pub node : ℕ
        pub is_deepest : DeepestOf parent n word number (accepted p (told_by cs)) node
        pub covers_it :
            (room : ℕ) → length (tag parent n word number node) ≤ room
            → answers cs (covers (started_ticket num p) room)
            ≡ writes (length (tag parent n word number node)) (tag parent n word number node) (Some (started_ticket num p))
        pub closes_it :
            (room : ℕ) → length (tag parent n word number node) ≤ room
            → answers cs (closes (started_ticket num p) room)
            ≡ writes (length (tag parent n word number node)) (tag parent n word number node) None

      -- compare of p and q answers what the tree says of their two nodes
      pub record Compared (cs : List Call) (p q : ℕ) : Type 0 where
        pub first : ℕ
        pub second : ℕ
        pub both : ℕ
        pub first_is : DeepestOf parent n word number (accepted p (told_by cs)) first
        pub second_is : DeepestOf parent n word number (accepted q (told_by cs)) second
        pub both_is : Deepest parent (first ∷ second ∷ []) both
        pub found : Related
        pub answer_is : answers cs (compares p q) ≡ relates found
        pub relation_is : Stands parent first second found.relation
        pub deeper_is : found.deeper ≡ sub_ℕ (depth_of parent second) (depth_of parent first)
        pub steps_are : found.steps + 2 * depth_of parent both ≡ depth_of parent first + depth_of parent second

      pub record OnSheet : Type 0 where
        pub holds :
            (cs : List Call) → OfSheet parent n word number (told_by cs) → (p : ℕ) → standing p (told_by cs) ≡ is_started → Held cs p
        -- any call that wrote, wherever it stands in a history
        pub wrote :
            (cs : List Call) (before later : History) (c : Call) (p k : ℕ) (b : List ℕ) (back : Option Ticket)
            → told_by cs ≡ before ++ ((c, writes k b back) ∷ later) → names p c ≡ true → OfSheet parent n word number before
            → Written parent n word number before p k b
        pub compared :
            (cs : List Call) → OfSheet parent n word number (told_by cs) → (p q : ℕ)
            → standing p (told_by cs) ≡ is_started → standing q (told_by cs) ≡ is_started → Compared cs p q
        -- a tag of a node is never turned away from a rack of its tree number
        pub starts_on :
            (cs : List Call) (p v : ℕ) → v < n → 1 ≤ number → tree ≡ number → standing p (told_by cs) ≡ is_opened
            → answers cs (starts (opened_ticket num p) (tag parent n word number v)) ≡ hands (started_ticket num p)
        pub adds_on :
            (cs : List Call) → OfSheet parent n word number (told_by cs) → (p v : ℕ) → v < n → standing p (told_by cs) ≡ is_started
            → answers cs (adds (started_ticket num p) (tag parent n word number v)) ≡ hands (started_ticket num p)

    pub record Promises : Type 0 where
      -- of every tree, every code with the law of codes, and every tree number
      pub on_sheet :
          (parent : ℕ → Option ℕ) (n : ℕ) (word : List ℕ → ℕ → Word) → Tree parent n → Lawful word → (number : ℕ)
          → OnSheet parent n word number
      -- what is answered at a place depends on the calls that name it alone
      pub isolated : (p : ℕ) (cs ds : List Call) → calls_at p cs ≡ calls_at p ds → history_at p (told_by cs) ≡ history_at p (told_by ds)
      -- a place that is empty can be opened
      pub opens_on : (cs : List Call) (p : ℕ) → p < place_count → standing p (told_by cs) ≡ is_empty → answers cs (opens p) ≡ hands (opened_ticket num p)
      -- and no other: two jobs never have one place
      pub opens_once : (cs : List Call) (p : ℕ) (t : Ticket) → answers cs (opens p) ≡ hands t → standing p (told_by cs) ≡ is_empty
      -- no call with another rack's ticket succeeds
      pub guarded : (cs : List Call) (c : Call) → foreign num c ≡ true → in_vain (answers cs c) ≡ true
      -- a call in vain changes nothing: whatever is asked later is answered as without it
      pub unchanged :
          (cs ds : List Call) (c d : Call) → in_vain (answers cs c) ≡ true → answers (cs ++ (c ∷ ds)) d ≡ answers (cs ++ ds) d
      -- a refusal hands back the ticket that the call was made with
      pub handed_back : (cs : List Call) (c : Call) (w : Refusal) (back : Option Ticket) → answers cs c ≡ refuses w back → back ≡ ticket_of c
      -- whatever bytes come in, what is written reads as a tag of the rack's tree number
      pub readable :
          (cs : List Call) → AllBytes cs → (c : Call) (k : ℕ) (b : List ℕ) (back : Option Ticket) → answers cs c ≡ writes k b back
          → Reads b × (tree_of b ≡ tree)

-- the rack of the model
abbrev pub the_rack : Machine
the_rack = record { Inside = State; new = fresh; says = answer; then = after }

-- of every new rack; a tree number has two bytes
abbrev pub Promised : Type 0
Promised = (num tree : ℕ) → tree ≤ most_number → Promises the_rack num tree
