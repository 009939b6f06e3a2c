-- The wrong racks, each with the calls at which it breaks a promise, on the small tree; and the example of the true one.
use Rattle.std.proofs.Common.{◌≡◌, ℕ, suc, ◌+◌, ◌*◌, ◌≤◌, true, cond, leb, List, [], ◌∷◌, length, Some, None, Option, sym, refl, ap, ◌∙◌, subst, inl, arith}
use Rattle.std.proofs.lemmas.Bool.{le-leb, cond-true, false≢true}
use Rattle.trees.specs.Above.{AtOrAbove, here, up, depth_of}
use Rattle.trees.specs.Deepest.{Deepest}
use Rattle.trees.proofs.Above.{smaller}
use Rattle.trees.proofs.Meet.{one as one-deepest}
use Rattle.codes.specs.Gilbert.{gilbert_moore}
use Rattle.codes.specs.Laws.{gilbert_lawful}
use Rattle.formats.specs.declared.answers.Related.{Related}
use Rattle.formats.specs.declared.answers.Relation.{Relation}
use Rattle.formats.specs.declared.answers.Relation.TheVariants.{Same, FirstAbove, SecondAbove, Apart}
use Rattle.labels.specs.Covers.{Stands, are_same, first_is, second_is, neither}
use Rattle.labels.specs.Small.{small_parent}
use Rattle.histories.specs.Model.{Ticket, opened_ticket, started_ticket, Call, opens, starts, adds, covers, abandons, does_not_fit, short_output, Refusal, Answer, refuses, hands, writes, relates, spends, verdict, start_fault, add_fault}
use Rattle.histories.specs.Told.{History, standing, accepted, in_vain}
use Rattle.histories.specs.Promises.{told_by, answers, Promises, the_rack}
use Rattle.histories.specs.Wrong.{first_kept, unforgetting, swapped, one_more, made_up, looking, anyway, careless, shut, sharing, grasping, small_tag, four_calls, WrongRacks, Happens}
use Rattle.histories.proofs.Small.{is_tree, taken_at, added_at, one, not_3_5, joined_35, joined_23, joined_15, Deep, Sheet, only, sheet_one, sheet_two, sheet_three}
use Rattle.histories.proofs.Whole.{promised}

abbrev O₀ : Ticket
O₀ = opened_ticket 1 0

abbrev S₀ : Ticket
S₀ = started_ticket 1 0

abbrev O₁ : Ticket
O₁ = opened_ticket 1 1

abbrev S₁ : Ticket
S₁ = started_ticket 1 1

start_0 : start_fault 7 (small_tag 0) ≡ None
start_0 = taken_at 0 (omega arith)

start_2 : start_fault 7 (small_tag 2) ≡ None
start_2 = taken_at 2 (omega arith)

start_3 : start_fault 7 (small_tag 3) ≡ None
start_3 = taken_at 3 (omega arith)

add_35 : add_fault 7 (small_tag 3) (small_tag 5) ≡ None
add_35 = added_at 3 5 (omega arith) (omega arith)

same_bytes : (k l : ℕ) (a b : List ℕ) (o : Option Ticket) → writes k a o ≡ writes l b o → a ≡ b
same_bytes k l a b o e = cc

room_for : (h : List ℕ) (room : ℕ) (o : Option Ticket) (a : Answer) → length h ≤ room → cond (leb (length h) room) (writes (length h) h o) a ≡ writes (length h) h o
room_for h room o a l = cond-true (leb (length h) room) _ _ (le-leb (length h) room l)

-- keeps its first tag: open, start with node 3, add node 5, cover
abbrev calls_first : List Call
calls_first = opens 0 ∷ starts O₀ (small_tag 3) ∷ adds S₀ (small_tag 5) ∷ []

abbrev end_first : History
end_first = (opens 0, hands O₀) ∷ (starts O₀ (small_tag 3), hands S₀) ∷ (adds S₀ (small_tag 5), hands S₀) ∷ []

told_first : told_by first_kept 1 7 calls_first ≡ end_first
told_first = rw (start_3, add_35) refl

wrote_first : (room : ℕ) → length (small_tag 3) ≤ room → answers first_kept 1 7 calls_first (covers S₀ room) ≡ writes (length (small_tag 3)) (small_tag 3) (Some S₀)
wrote_first room k = rw start_3 (room_for (small_tag 3) room (Some S₀) _ k)

no_first : Promises first_kept 1 7 → ⊥
no_first P =
    let O : Sheet (told_by first_kept 1 7 calls_first) = subst Sheet (sym told_first) (sheet_two 3 5 (omega arith) (omega arith) end_first refl) in
    let H = (P.on_sheet small_parent 6 gilbert_moore is_tree gilbert_lawful 7).holds calls_first O 0 (ap (standing 0) told_first) in
    let d : ℕ = H.node in
    let D : Deep (small_tag 5 ∷ small_tag 3 ∷ []) d = subst (λ (h : History). Deep (accepted 0 h) H.node) told_first H.is_deepest in
    let room : ℕ = length (small_tag d) + length (small_tag 3) in
    let e : small_tag d ≡ small_tag 3 = same_bytes _ _ _ _ (Some S₀) (sym (H.covers_it room (omega arith)) ∙ wrote_first room (omega arith)) in
    let q : d ≡ 3 = one d 3 D.inside (omega arith) e in
    not_3_5 (subst (λ (x : ℕ). AtOrAbove small_parent x 5) q (D.above 5 (omega arith) (inl refl)))

-- forgets to forget: open, start with node 3, abandon, open, start with node 5, cover
abbrev calls_old : List Call
calls_old = opens 0 ∷ starts O₀ (small_tag 3) ∷ abandons S₀ ∷ opens 0 ∷ starts O₀ (small_tag 5) ∷ []

abbrev end_old : History
end_old = (opens 0, hands O₀) ∷ (starts O₀ (small_tag 3), hands S₀) ∷ (abandons S₀, spends true) ∷ (opens 0, hands O₀) ∷ (starts O₀ (small_tag 5), hands S₀) ∷ []

told_old : told_by unforgetting 1 7 calls_old ≡ end_old
told_old = rw (start_3, joined_35, start_0) refl

wrote_old : (room : ℕ) → length (small_tag 0) ≤ room → answers unforgetting 1 7 calls_old (covers S₀ room) ≡ writes (length (small_tag 0)) (small_tag 0) (Some S₀)
wrote_old room k = rw (start_3, joined_35, start_0) (room_for (small_tag 0) room (Some S₀) _ k)

no_old : Promises unforgetting 1 7 → ⊥
no_old P =
    let O : Sheet (told_by unforgetting 1 7 calls_old) = subst Sheet (sym told_old) (sheet_two 3 5 (omega arith) (omega arith) end_old refl) in
    let H = (P.on_sheet small_parent 6 gilbert_moore is_tree gilbert_lawful 7).holds calls_old O 0 (ap (standing 0) told_old) in
    let d : ℕ = H.node in
    let D : Deep (small_tag 5 ∷ []) d = subst (λ (h : History). Deep (accepted 0 h) H.node) told_old H.is_deepest in
    let room : ℕ = length (small_tag d) + length (small_tag 0) in
    let e : small_tag d ≡ small_tag 0 = same_bytes _ _ _ _ (Some S₀) (sym (H.covers_it room (omega arith)) ∙ wrote_old room (omega arith)) in
    let q : d ≡ 0 = one d 0 D.inside (omega arith) e in
    let r : d ≡ 5 = only 5 d (omega arith) D in
    omega arith

-- sides exchanged: open and start place 0 with node 0 and place 1 with node 3, compare 0 with 1
abbrev calls_swap : List Call
calls_swap = opens 0 ∷ starts O₀ (small_tag 0) ∷ opens 1 ∷ starts O₁ (small_tag 3) ∷ []

abbrev end_swap : History
end_swap = (opens 0, hands O₀) ∷ (starts O₀ (small_tag 0), hands S₀) ∷ (opens 1, hands O₁) ∷ (starts O₁ (small_tag 3), hands S₁) ∷ []

told_swap : told_by the_rack 1 7 calls_swap ≡ end_swap
told_swap = rw (start_0, start_3) refl

sheet_swap : Sheet (told_by the_rack 1 7 calls_swap)
sheet_swap = subst Sheet (sym told_swap) (sheet_two 0 3 (omega arith) (omega arith) end_swap refl)

first_of : (r : Relation) → Stands small_parent 0 3 r → r ≡ FirstAbove
first_of Same (are_same e) = absurd (omega arith)
first_of FirstAbove (first_is a e) = refl
first_of SecondAbove (second_is a e) = let k = smaller is_tree a in absurd (omega arith)
first_of Apart (neither a b) = absurd (a (up {p = 1} refl (up {p = 0} refl here)))

second_of : (r : Relation) → Stands small_parent 3 0 r → r ≡ SecondAbove
second_of Same (are_same e) = absurd (omega arith)
second_of FirstAbove (first_is a e) = let k = smaller is_tree a in absurd (omega arith)
second_of SecondAbove (second_is a e) = refl
second_of Apart (neither a b) = absurd (b (up {p = 1} refl (up {p = 0} refl here)))

stands_at : (u v u' v' : ℕ) (r : Relation) → u ≡ u' → v ≡ v' → Stands small_parent u v r → Stands small_parent u' v' r
stands_at u v u' v' r p q s = subst (λ (x : ℕ). Stands small_parent u' x r) q (subst (λ (x : ℕ). Stands small_parent x v r) p s)

apart_answers : (f g : Related) → relates f ≡ relates g → f.relation ≡ FirstAbove → g.relation ≡ SecondAbove → ⊥
apart_answers f g a p q =
    let e : f ≡ g = cc in
    let r = ap (λ (x : Related). x.relation) e in
    let z : ◌≡◌ {A = ℕ} 0 1 = cc in
    omega arith

no_swap : Promises swapped 1 7 → ⊥
no_swap P =
    let C = (P.on_sheet small_parent 6 gilbert_moore is_tree gilbert_lawful 7).compared calls_swap sheet_swap 0 1 (ap (standing 0) told_swap) (ap (standing 1) told_swap) in
    let R = ((promised 1 7 (omega arith)).on_sheet small_parent 6 gilbert_moore is_tree gilbert_lawful 7).compared calls_swap sheet_swap 1 0 (ap (standing 1) told_swap) (ap (standing 0) told_swap) in
    let e : C.found.relation ≡ FirstAbove =
    first_of _ (stands_at _ _ 0 3 _ (only 0 C.first (omega arith) (subst (λ (h : History). Deep (accepted 0 h) C.first) told_swap C.first_is))
    (only 3 C.second (omega arith) (subst (λ (h : History). Deep (accepted 1 h) C.second) told_swap C.second_is)) C.relation_is) in
    let f : R.found.relation ≡ SecondAbove =
    second_of _ (stands_at _ _ 3 0 _ (only 3 R.first (omega arith) (subst (λ (h : History). Deep (accepted 1 h) R.first) told_swap R.first_is))
    (only 0 R.second (omega arith) (subst (λ (h : History). Deep (accepted 0 h) R.second) told_swap R.second_is)) R.relation_is) in
    apart_answers C.found R.found (sym C.answer_is ∙ R.answer_is) e f

-- makes up a step: open, start with node 3, compare the place with itself
abbrev calls_one : List Call
calls_one = opens 0 ∷ starts O₀ (small_tag 3) ∷ []

abbrev end_one : History
end_one = (opens 0, hands O₀) ∷ (starts O₀ (small_tag 3), hands S₀) ∷ []

told_one : told_by the_rack 1 7 calls_one ≡ end_one
told_one = rw start_3 refl

told_up : told_by made_up 1 7 calls_one ≡ end_one
told_up = rw start_3 refl

one_step : (f g : Related) → one_more (relates f) ≡ relates g → g.steps ≡ suc f.steps
one_step f g e =
    let q : ◌≡◌ {A = Related} (record { relation = f.relation; deeper = f.deeper; steps = suc f.steps }) g = cc in
    sym (ap (λ (x : Related). x.steps) q)

no_steps : (x u v m : ℕ) → u ≡ 3 → v ≡ 3 → Deepest small_parent (u ∷ v ∷ []) m → x + 2 * depth_of small_parent m ≡ depth_of small_parent u + depth_of small_parent v → x ≡ 0
no_steps x u v m p q D e =
    let E : Deepest small_parent (3 ∷ 3 ∷ []) m = subst (λ (y : ℕ). Deepest small_parent (3 ∷ y ∷ []) m) q (subst (λ (y : ℕ). Deepest small_parent (y ∷ v ∷ []) m) p D) in
    let s : m ≡ 3 = one-deepest is_tree (3 ∷ 3 ∷ []) m 3 E (record { above = (here, (here, tt)); lowest = λ y k. k.0 }) in
    let a = ap (depth_of small_parent) p in
    let b = ap (depth_of small_parent) q in
    let c = ap (depth_of small_parent) s in
    omega arith

no_up : Promises made_up 1 7 → ⊥
no_up P =
    let O : Sheet (told_by made_up 1 7 calls_one) = subst Sheet (sym told_up) (sheet_one 3 (omega arith) end_one refl) in
    let U : Sheet (told_by the_rack 1 7 calls_one) = subst Sheet (sym told_one) (sheet_one 3 (omega arith) end_one refl) in
    let C = (P.on_sheet small_parent 6 gilbert_moore is_tree gilbert_lawful 7).compared calls_one O 0 0 (ap (standing 0) told_up) (ap (standing 0) told_up) in
    let R = ((promised 1 7 (omega arith)).on_sheet small_parent 6 gilbert_moore is_tree gilbert_lawful 7).compared calls_one U 0 0 (ap (standing 0) told_one) (ap (standing 0) told_one) in
    let p = only 3 C.first (omega arith) (subst (λ (h : History). Deep (accepted 0 h) C.first) told_up C.first_is) in
    let q = only 3 C.second (omega arith) (subst (λ (h : History). Deep (accepted 0 h) C.second) told_up C.second_is) in
    let z = no_steps C.found.steps C.first C.second C.both p q C.both_is C.steps_are in
    let y = one_step R.found C.found (ap one_more (sym R.answer_is) ∙ C.answer_is) in
    omega arith

-- looks at another place: a cover at place 1 that does not fit, with place 0 empty and with place 0 opened
two_refusals : (c : Call) (o : Option Ticket) → ◌≡◌ {A = History} ((c, refuses does_not_fit o) ∷ []) ((c, refuses short_output o) ∷ []) → ⊥
two_refusals c o e =
    let f : ◌≡◌ {A = Call × Answer} (c, refuses does_not_fit o) (c, refuses short_output o) = cc in
    let g : refuses does_not_fit o ≡ refuses short_output o = ap (λ (x : Call × Answer). x.1) f in
    let z : ◌≡◌ {A = ℕ} 0 1 = cc in
    omega arith

no_sight : Promises looking 1 7 → ⊥
no_sight P = two_refusals (covers S₁ 0) (Some S₁) (P.isolated 1 (covers S₁ 0 ∷ []) (opens 0 ∷ covers S₁ 0 ∷ []) refl)

-- refuses and follows: open, start with node 3, add node 5 with a ticket of rack 2, cover
abbrev calls_anyway : List Call
calls_anyway = opens 0 ∷ starts O₀ (small_tag 3) ∷ adds (started_ticket 2 0) (small_tag 5) ∷ []

abbrev end_anyway : History
end_anyway =
    (opens 0, hands O₀) ∷ (starts O₀ (small_tag 3), hands S₀)
    ∷ (adds (started_ticket 2 0) (small_tag 5), refuses does_not_fit (Some (started_ticket 2 0))) ∷ []

told_anyway : told_by anyway 1 7 calls_anyway ≡ end_anyway
told_anyway = rw start_3 refl

wrote_anyway : (room : ℕ) → length (small_tag 0) ≤ room → answers anyway 1 7 calls_anyway (covers S₀ room) ≡ writes (length (small_tag 0)) (small_tag 0) (Some S₀)
wrote_anyway room k = rw (start_3, add_35, joined_35) (room_for (small_tag 0) room (Some S₀) _ k)

no_follow : Promises anyway 1 7 → ⊥
no_follow P =
    let O : Sheet (told_by anyway 1 7 calls_anyway) = subst Sheet (sym told_anyway) (sheet_one 3 (omega arith) end_anyway refl) in
    let H = (P.on_sheet small_parent 6 gilbert_moore is_tree gilbert_lawful 7).holds calls_anyway O 0 (ap (standing 0) told_anyway) in
    let d : ℕ = H.node in
    let D : Deep (small_tag 3 ∷ []) d = subst (λ (h : History). Deep (accepted 0 h) H.node) told_anyway H.is_deepest in
    let room : ℕ = length (small_tag d) + length (small_tag 0) in
    let e : small_tag d ≡ small_tag 0 = same_bytes _ _ _ _ (Some S₀) (sym (H.covers_it room (omega arith)) ∙ wrote_anyway room (omega arith)) in
    let q : d ≡ 0 = one d 0 D.inside (omega arith) e in
    let r : d ≡ 3 = only 3 d (omega arith) D in
    omega arith

-- looks at no rack number: open, start with a ticket of rack 2
no_look : Promises careless 1 7 → ⊥
no_look P =
    let e : in_vain (verdict (start_fault 7 (small_tag 3)) O₀ (hands S₀)) ≡ true = P.guarded (opens 0 ∷ []) (starts (opened_ticket 2 0) (small_tag 3)) refl in
    false≢true (subst (λ (x : Option Refusal). in_vain (verdict x O₀ (hands S₀)) ≡ true) start_3 e)

no_open : Promises shut 1 7 → ⊥
no_open P =
    let e = P.opens_on [] 0 (omega arith) refl in
    let z : ◌≡◌ {A = ℕ} 0 1 = cc in
    omega arith

no_share : Promises sharing 1 7 → ⊥
no_share P =
    let e = P.opens_once (opens 0 ∷ []) 0 O₀ refl in
    let z : ◌≡◌ {A = ℕ} 0 1 = cc in
    omega arith

no_grasp : Promises grasping 1 7 → ⊥
no_grasp P =
    let e = P.handed_back [] (covers S₀ 0) does_not_fit None refl in
    let z : ◌≡◌ {A = ℕ} 0 1 = cc in
    omega arith

pub wrong_racks : WrongRacks
wrong_racks =
    record {
      no_first_kept = no_first;
      no_unforgetting = no_old;
      no_swapped = no_swap;
      no_made_up = no_up;
      no_looking = no_sight;
      no_anyway = no_follow;
      no_careless = no_look;
      no_shut = no_open;
      no_sharing = no_share;
      no_grasping = no_grasp;
    }

-- the true rack: open, start with node 2, add node 3 and node 5
add_23 : add_fault 7 (small_tag 2) (small_tag 3) ≡ None
add_23 = added_at 2 3 (omega arith) (omega arith)

add_15 : add_fault 7 (small_tag 1) (small_tag 5) ≡ None
add_15 = added_at 1 5 (omega arith) (omega arith)

abbrev end_four : History
end_four = (opens 0, hands O₀) ∷ (starts O₀ (small_tag 2), hands S₀) ∷ (adds S₀ (small_tag 3), hands S₀) ∷ (adds S₀ (small_tag 5), hands S₀) ∷ []

told_four : told_by the_rack 1 7 four_calls ≡ end_four
told_four = rw (start_2, add_23, joined_23, add_15) refl

pub happens : Happens
happens =
    record {
      is_tree = is_tree;
      is_lawful = gilbert_lawful;
      is_started_then = ap (standing 0) told_four;
      all_of_sheet = subst Sheet (sym told_four) (sheet_three 2 3 5 (omega arith) (omega arith) (omega arith) end_four refl);
      writes_root = λ room k. rw (start_2, add_23, joined_23, add_15, joined_15) (room_for (small_tag 0) room (Some S₀) _ k);
    }
