-- The answers of look-up, test by test.
use Rattle.std.proofs.Common.{◌≡◌, ℕ, ◌+◌, ◌<◌, ◌≤◌, Bool, true, false, ◌||◌, ltb, ◌⊎◌, List, length, MatchResult, Some, None, Ok, Err, Option, Bor, sym, refl, ap, ◌∙◌, ⊎_elim, arith}
use Rattle.std.specs.List.{between}
use Rattle.std.specs.Option.{ok_or}
use Rattle.std.specs.Slice.{IsGetRangeResult}
use Rattle.std.proofs.lemmas.Bool.{lt-ltb, le-ltb, le-leb, lt-leb}
use Rattle.sheets.specs.declared.look.LookUpRefusal.TheVariants.{SheetTooShort, NoSuchNode, BadOffsets}
use Rattle.sheets.specs.LookingUp.{nodes_of, header_of, offset_at, look_up_fault, look_up_answer}

second : (a b : Bool) → b ≡ true → (a || b) ≡ true
second true b e = refl
second false b e = e

module _ (bs : List ℕ) (v : ℕ) where
  pub too_short : length bs < header_of bs → look_up_answer bs v ≡ Err SheetTooShort
  unfolding look_up_answer look_up_fault
  too_short l = rw (second (ltb (length bs) 4) (ltb (length bs) (header_of bs)) (lt-ltb (length bs) (header_of bs) l)) refl

  -- the bytes have a whole header
  module _ (long : header_of bs ≤ length bs) where
    four : 4 ≤ length bs
    four = omega arith

    pub no_node : nodes_of bs ≤ v → look_up_answer bs v ≡ Err NoSuchNode
    unfolding look_up_answer look_up_fault
    no_node l = rw (le-ltb (length bs) 4 four, le-ltb (length bs) (header_of bs) long, le-leb (nodes_of bs) v l) refl

    module _ (node : v < nodes_of bs) where
      pub too_early : offset_at bs v < header_of bs → look_up_answer bs v ≡ Err BadOffsets
      unfolding look_up_answer look_up_fault
      too_early l = rw (le-ltb (length bs) 4 four, le-ltb (length bs) (header_of bs) long, lt-leb (nodes_of bs) v node, lt-ltb (offset_at bs v) (header_of bs) l) refl

      module _ (late : header_of bs ≤ offset_at bs v) where
        pub found : offset_at bs v ≤ offset_at bs (v + 1) → offset_at bs (v + 1) ≤ length bs → look_up_answer bs v ≡ Ok (between (offset_at bs v) (offset_at bs (v + 1)) bs)
        unfolding look_up_answer look_up_fault
        found a b =
            rw (le-ltb (length bs) 4 four, le-ltb (length bs) (header_of bs) long, lt-leb (nodes_of bs) v node, le-ltb (offset_at bs v) (header_of bs) late, le-ltb (offset_at bs (v + 1)) (offset_at bs v) a, le-ltb (length bs) (offset_at bs (v + 1)) b) refl

        no_part : (offset_at bs (v + 1) < offset_at bs v) ⊎ (length bs < offset_at bs (v + 1)) → look_up_answer bs v ≡ Err BadOffsets
        unfolding look_up_answer look_up_fault
        no_part p =
            let bad : (ltb (offset_at bs (v + 1)) (offset_at bs v) || ltb (length bs) (offset_at bs (v + 1))) ≡ true =
            ⊎_elim
            (λ (a : offset_at bs (v + 1) < offset_at bs v). ap (λ (t : Bool). t || ltb (length bs) (offset_at bs (v + 1))) (lt-ltb (offset_at bs (v + 1)) (offset_at bs v) a))
            (λ (b : length bs < offset_at bs (v + 1)). second (ltb (offset_at bs (v + 1)) (offset_at bs v)) (ltb (length bs) (offset_at bs (v + 1))) (lt-ltb (length bs) (offset_at bs (v + 1)) b))
            p in
            rw (le-ltb (length bs) 4 four, le-ltb (length bs) (header_of bs) long, lt-leb (nodes_of bs) v node, le-ltb (offset_at bs v) (header_of bs) late, bad) refl

        -- what `get` gives between the two offsets, or the last refusal
        pub answered :
            (begin end : ℕ) (part : Option (Bor (List ℕ))) → begin ≡ offset_at bs v → end ≡ offset_at bs (v + 1) → IsGetRangeResult bs begin end part
            → MatchResult (ok_or part BadOffsets) (λ x. look_up_answer bs v ≡ Ok x.now) (λ refusal. look_up_answer bs v ≡ Err refusal)
        answered begin end None b e h = no_part (rw (← b, ← e) h.0)
        answered begin end (Some x) b e h = found (omega (arith, h.0.0)) (omega (arith, h.0.1)) ∙ ap (λ (part : List ℕ). Ok part) (rw (← b, ← e) (sym h.0.2))
