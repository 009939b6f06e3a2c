-- From the place that the code stores to the state that it leaves.
use Rattle.std.proofs.Common.{◌≡◌, ℕ, Bool, true, false, cond, leb, List, map, length, get_or, set, replicate, ◌<◌, Some, None, Option, sym, refl, ap, ◌∙◌, arith}
use Rattle.std.proofs.lemmas.List.{map-set, ext_get_or, get_or-replicate}
use Rattle.formats.specs.Layout.{tree_of}
use Rattle.histories.specs.Model.{Cell, empty, opened, started, State, Ticket, place_count, fresh, short_output, refuses, writes, adding, covering, closing, abandoning, add_fault, joined, fits, cell, put, next, says, misfit, told, tried}
use Rattle.racks.specs.declared.rack.Rack.{Rack}
use Rattle.racks.specs.declared.place.Place.{Place}
use Rattle.racks.specs.declared.place.Place.TheVariants.{Empty}
use Rattle.racks.specs.Views.{cell_of, state, state_of}

pub stored : (r : Rack) (p : ℕ) (y : Place) → state r.number r.tree (set r.places p y) ≡ put (state_of r) p (cell_of y)
stored r p y = ap (λ (cells : List Cell). record { number = r.number; tree = r.tree; cells = cells }) (map-set cell_of r.places p y)

-- sixteen empty places
pub empty_is : (number tree : ℕ) (places : List Place) → length places ≡ place_count → ((i : ℕ) → i < place_count → get_or places i Empty ≡ Empty) → state number tree places ≡ fresh number tree
empty_is number tree places n e =
    ap (λ (cells : List Cell). record { number = number; tree = tree; cells = cells })
    (ap (map cell_of) (ext_get_or Empty places (replicate place_count Empty) n (λ i h. e i (omega (arith, n)) ∙ sym (get_or-replicate place_count i Empty Empty (omega (arith, n))))))

module _ (s : State) (t : Ticket) where
  -- abandon, with a ticket that fits
  pub abandoned : fits s.number (cell s t.place) t ≡ true → put s t.place empty ≡ tried s t abandoning
  abandoned f = rw f (ap (put s t.place) (go (cell s t.place)))
    where
      go : (c : Cell) → empty ≡ next s.tree c abandoning
      go empty = refl
      go opened = refl
      go (started h) = refl

  -- add, of a place that holds h, with a tag that the rack takes
  pub added : (h b : List ℕ) → fits s.number (cell s t.place) t ≡ true → cell s t.place ≡ started h → tree_of h ≡ s.tree → add_fault (tree_of h) h b ≡ None → put s t.place (started (joined h b)) ≡ tried s t (adding b)
  added h b f c n a = let k : add_fault s.tree h b ≡ None = ap (λ (x : ℕ). add_fault x h b) (sym n) ∙ a in rw (f, c, k)

  -- close, where cover has written
  pub closed : (n room : ℕ) (b : List ℕ) (back : Option Ticket) → writes n b back ≡ told s t (covering room) → put s t.place empty ≡ tried s t (closing room)
  closed n room b back q = go (fits s.number (cell s t.place) t) (cell s t.place) q
    where
      with_room : (h : List ℕ) (w : Bool) → writes n b back ≡ cond w (writes (length h) h (Some t)) (refuses short_output (Some t)) → put s t.place empty ≡ put s t.place (cond w empty (started h))
      with_room h true e = refl
      with_room h false e = cc

      go : (v : Bool) (c : Cell) → writes n b back ≡ cond v (says s.tree t c (covering room)) (misfit t (covering room)) → put s t.place empty ≡ cond v (put s t.place (next s.tree c (closing room))) s
      go false c e = cc
      go true empty e = cc
      go true opened e = cc
      go true (started h) e = with_room h (leb (length h) room) e
