-- Every held tag is readable, and of the rack's tree number.
use Rattle.std.proofs.Common.{◌≡◌, ℕ, ◌+◌, ◌-◌, ◌*◌, ◌%◌, ◌≤◌, Bool, true, false, cond, ltb, leb, List, [], ◌∷◌, length, get_or, Some, None, Option, sym, refl, ap, ◌∙◌, subst, arith}
use Rattle.formats.specs.declared.answers.Side.{Side}
use Rattle.formats.specs.declared.answers.Side.TheVariants.{First, Second}
use Rattle.formats.specs.Layout.{tree_of, count_of, end_at, spare_of}
use Rattle.formats.specs.Faults.{tag_fault}
use Rattle.formats.specs.Models.{label_of}
use Rattle.formats.specs.Pairs.{clash, cover, side_of}
use Rattle.formats.specs.Cuts.{cut_tag}
use Rattle.formats.specs.Theorems.{Bytes, Reads}
use Rattle.formats.proofs.Small.{bytes_append, bytes_between, byte_one}
use Rattle.formats.proofs.Readable.{is_readable, no_fault}
use Rattle.formats.proofs.Read.{chain_of, length_label}
use Rattle.formats.proofs.Covering.{shared}
use Rattle.formats.proofs.Cutting.{cleared, last_of, cut_with, cut_bytes}
use Rattle.formats.proofs.CutReads.{cut_shorter}
use Rattle.formats.proofs.CutTags.{cut_is}
use Rattle.formats.proofs.Trip.{reads_as}
use Rattle.histories.specs.Model.{Cell, empty, opened, started, State, place_count, Call, opens, starts, adds, covers, closes, compares, abandons, Refusal, opened_from, starting, adding, closing, abandoning, start_fault, add_fault, joined, settled, fits, cell, next, after}
use Rattle.histories.specs.Told.{names, tag_in, AllBytes}
use Rattle.histories.specs.Promises.{the_rack, run}
use Rattle.histories.proofs.Local.{place_next, next_here, next_there, after_kept}
use Rattle.histories.proofs.Nodes.{start_fitting, add_fitting, add_calm}

-- bytes that are a tag of that tree number
pub record HeldTag (tree : ℕ) (h : List ℕ) : Type 0 where
  pub small : Bytes h
  pub sound : tag_fault h ≡ None
  pub right : tree_of h ≡ tree

bytes_cut : (bs : List ℕ) (k m l : ℕ) → Bytes bs → m ≤ 63 → Bytes (cut_with bs k m l)
bytes_cut bs k m l p h =
    bytes_append _ _
    (bytes_append _ _
    (bytes_append _ _ (bytes_append _ _ (bytes_append _ _ (bytes_between bs 0 2 p) (byte_one m (omega arith))) (bytes_between bs 3 (3 + 2 * m) p)) (bytes_between bs (3 + 2 * k) (3 + 2 * k + (m + 1)) p))
    (bytes_between bs (3 * k + 4) (last_of k l) p))
    (byte_one (cleared (get_or bs (last_of k l) 0) (spare_of l)) (omega (arith, p (last_of k l))))

cut_held : (tree : ℕ) (bs : List ℕ) (m : ℕ) → HeldTag tree bs → m % 2 ≡ 1 → m ≤ length (label_of bs) → HeldTag tree (cut_tag bs m)
cut_held tree bs m h odd within =
    let ok = is_readable bs h.sound in
    let w : m ≤ count_of bs = omega (arith, length_label bs ok) in
    let s = cut_shorter bs m ok odd w in
    subst (λ (x : List ℕ). HeldTag tree x) (cut_is bs m h.small h.sound odd w)
    (record {
      small = bytes_cut bs (count_of bs) m (end_at bs (m - 1)) h.small (omega (arith, ok.few));
      sound = no_fault (cut_bytes bs m) s.readable;
      right = s.number ∙ h.right;
    })

pub joined_held : (tree : ℕ) (h b : List ℕ) → HeldTag tree h → HeldTag tree b → clash (label_of h) (label_of b) ≡ false → HeldTag tree (joined h b)
unfolding joined
joined_held tree h b H B c =
    let s = shared 0 (label_of h) (label_of b) (chain_of h (is_readable h H.sound)) (chain_of b (is_readable b B.sound)) c in
    go (cover (label_of h) (label_of b)).side (cover (label_of h) (label_of b)).fields s.odd s.within
  where
    go : (x : Side) (m : ℕ) → m % 2 ≡ 1 → m ≤ length (side_of x (label_of h) (label_of b)) → HeldTag tree (cut_tag (side_of x h b) m)
    go First m o w = cut_held tree h m H o w
    go Second m o w = cut_held tree b m B o w

-- a place
abbrev pub ReadsIn : ℕ → Cell → Type 0
ReadsIn tree empty = Unit {0}
ReadsIn tree opened = Unit {0}
ReadsIn tree (started h) = HeldTag tree h

module _ (tree : ℕ) where
  reads_open : (v : Cell) (w : Bool) → ReadsIn tree v → ReadsIn tree (cond w (opened_from v) v)
  reads_open v false g = g
  reads_open empty true g = tt
  reads_open opened true g = tt
  reads_open (started h) true g = g

  reads_start : (b : List ℕ) (v : Cell) (w : Bool) → Bytes b → ReadsIn tree v → ReadsIn tree (cond w (next tree v (starting b)) v)
  reads_start b v false B g = g
  reads_start b empty true B g = g
  reads_start b opened true B g = go (start_fault tree b) refl
    where
      go : (o : Option Refusal) → start_fault tree b ≡ o → ReadsIn tree (settled o (started b) opened)
      go None e = let f = start_fitting tree b e in record { small = B; sound = f.sound; right = f.right }
      go (Some r) e = tt
  reads_start b (started h) true B g = g

  reads_add : (b : List ℕ) (v : Cell) (w : Bool) → Bytes b → ReadsIn tree v → ReadsIn tree (cond w (next tree v (adding b)) v)
  reads_add b v false B g = g
  reads_add b empty true B g = g
  reads_add b opened true B g = g
  reads_add b (started h) true B g = go (add_fault tree h b) refl
    where
      go : (o : Option Refusal) → add_fault tree h b ≡ o → ReadsIn tree (settled o (started (joined h b)) (started h))
      go None e =
          let f = add_fitting tree h b e in
          joined_held tree h b g (record { small = B; sound = f.sound; right = f.right }) (add_calm tree h b e)
      go (Some r) e = g

  reads_close : (room : ℕ) (v : Cell) (w : Bool) → ReadsIn tree v → ReadsIn tree (cond w (next tree v (closing room)) v)
  reads_close room v false g = g
  reads_close room empty true g = g
  reads_close room opened true g = g
  reads_close room (started h) true g = go (leb (length h) room) _ tt
    where
      go : (o : Bool) (x : Cell) → ReadsIn tree x → ReadsIn tree (cond o x (started h))
      go true x f = f
      go false x f = g

  reads_abandon : (v : Cell) (w : Bool) → ReadsIn tree v → ReadsIn tree (cond w (next tree v abandoning) v)
  reads_abandon v false g = g
  reads_abandon empty true g = tt
  reads_abandon opened true g = tt
  reads_abandon (started h) true g = tt

  reads_next : (num : ℕ) (v : Cell) (c : Call) → Bytes (tag_in c) → ReadsIn tree v → ReadsIn tree (place_next num tree v c)
  reads_next num v (opens q) B g = reads_open v (ltb q place_count) g
  reads_next num v (starts t b) B g = reads_start b v (fits num v t) B g
  reads_next num v (adds t b) B g = reads_add b v (fits num v t) B g
  reads_next num v (covers t room) B g = g
  reads_next num v (closes t room) B g = reads_close room v (fits num v t) g
  reads_next num v (compares q r) B g = g
  reads_next num v (abandons t) B g = reads_abandon v (fits num v t) g

  reads_after : (s : State) (p : ℕ) (c : Call) → s.tree ≡ tree → length s.cells ≡ place_count → Bytes (tag_in c) → ReadsIn tree (cell s p) → ReadsIn tree (cell (after s c) p)
  reads_after s p c m l B g = go (names p c) refl
    where
      go : (b : Bool) → names p c ≡ b → ReadsIn tree (cell (after s c) p)
      go true e =
          subst (λ (v : Cell). ReadsIn tree v) (ap (λ (x : ℕ). place_next s.number x (cell s p) c) (sym m) ∙ sym (next_here s p c l e))
          (reads_next s.number (cell s p) c B g)
      go false e = subst (λ (v : Cell). ReadsIn tree v) (sym (next_there s p c e)) g

  -- after any calls that bring in bytes
  pub reads_run : (cs : List Call) (s : State) (p : ℕ) → s.tree ≡ tree → length s.cells ≡ place_count → AllBytes cs → ReadsIn tree (cell s p)
      → ReadsIn tree (cell (run the_rack s cs) p)
  reads_run [] s p m l B g = g
  reads_run (c ∷ cs) s p m l B g =
      reads_run cs (after s c) p ((after_kept s c).tree_kept ∙ m) ((after_kept s c).length_kept ∙ l) B.1 (reads_after s p c m l B.0 g)

pub held_reads : (tree : ℕ) (h : List ℕ) → HeldTag tree h → Reads h × (tree_of h ≡ tree)
held_reads tree h H = (reads_as h H.small H.sound, H.right)
