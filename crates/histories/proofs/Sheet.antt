-- What a place holds, as long as every tag that is accepted is the tag of a node of one tree.
use Rattle.std.proofs.Common.{◌≡◌, ℕ, ◌<◌, ◌≤◌, Bool, true, false, cond, ◌&&◌, ltb, leb, List, [], ◌∷◌, length, Some, None, Option, sym, refl, ap, ◌∙◌, subst, inl, inr, ⊎_elim, arith}
use Rattle.trees.specs.Tree.{Tree}
use Rattle.trees.specs.Above.{here}
use Rattle.trees.specs.Deepest.{Deepest}
use Rattle.trees.proofs.Above.{through}
use Rattle.trees.proofs.Meet.{node}
use Rattle.codes.specs.declared.word.Word.{Word}
use Rattle.codes.specs.Coding.{Lawful}
use Rattle.formats.specs.Limits.{most_number}
use Rattle.formats.specs.Layout.{tree_of}
use Rattle.formats.proofs.Readable.{is_readable}
use Rattle.labels.specs.Sheet.{tag}
use Rattle.labels.proofs.Covering.{all_covers}
use Rattle.histories.specs.Model.{Cell, empty, opened, started, State, Ticket, place_count, opened_ticket, traded, Call, opens, starts, adds, covers, closes, compares, abandons, Refusal, Answer, refuses, hands, no_such_place, opened_from, open_says, starting, adding, closing, abandoning, start_fault, add_fault, joined, settled, verdict, fits, cell, next, says, misfit, after, answer}
use Rattle.histories.specs.Told.{History, names, granted, accepts, accepted_from, takes, taken, In}
use Rattle.histories.specs.Promises.{the_rack, history, run, OfSheet, DeepestOf}
use Rattle.histories.proofs.Local.{place_says, place_next, says_here, next_here, next_there, after_kept}
use Rattle.histories.proofs.Nodes.{Fitting, start_fitting, add_fitting, tree_tag, joined_tag, tag_one}

-- what a call that names the place does to its tags
abbrev pub place_accepts : List (List ℕ) → Call → Answer → List (List ℕ)
place_accepts ts (opens q) a = cond (granted a) [] ts
place_accepts ts (starts t b) a = cond (granted a) (b ∷ ts) ts
place_accepts ts (adds t b) a = cond (granted a) (b ∷ ts) ts
place_accepts ts (covers t room) a = ts
place_accepts ts (closes t room) a = ts
place_accepts ts (compares q r) a = ts
place_accepts ts (abandons t) a = ts

accepts_here : (p : ℕ) (ts : List (List ℕ)) (c : Call) (a : Answer) → names p c ≡ true → place_accepts ts c a ≡ accepts p ts c a
accepts_here p ts (opens q) a e = ap (λ (b : Bool). cond (b && granted a) [] ts) (sym e)
accepts_here p ts (starts t b) a e = ap (λ (v : Bool). cond (v && granted a) (b ∷ ts) ts) (sym e)
accepts_here p ts (adds t b) a e = ap (λ (v : Bool). cond (v && granted a) (b ∷ ts) ts) (sym e)
accepts_here p ts (covers t room) a e = refl
accepts_here p ts (closes t room) a e = refl
accepts_here p ts (compares q r) a e = refl
accepts_here p ts (abandons t) a e = refl

accepts_there : (p : ℕ) (ts : List (List ℕ)) (c : Call) (a : Answer) → names p c ≡ false → ts ≡ accepts p ts c a
accepts_there p ts (opens q) a e = ap (λ (b : Bool). cond (b && granted a) [] ts) (sym e)
accepts_there p ts (starts t b) a e = ap (λ (v : Bool). cond (v && granted a) (b ∷ ts) ts) (sym e)
accepts_there p ts (adds t b) a e = ap (λ (v : Bool). cond (v && granted a) (b ∷ ts) ts) (sym e)
accepts_there p ts (covers t room) a e = refl
accepts_there p ts (closes t room) a e = refl
accepts_there p ts (compares q r) a e = refl
accepts_there p ts (abandons t) a e = refl

-- what is accepted later is accepted
more : (b b' : List ℕ) (ts : List (List ℕ)) (w : Bool) → In b ts → In b (cond w (b' ∷ ts) ts)
more b b' ts true i = inr i
more b b' ts false i = i

taken_more : (c : Call) (a : Answer) (ts : List (List ℕ)) (b : List ℕ) → In b ts → In b (takes c a ts)
taken_more (opens q) a ts b i = i
taken_more (starts t b') a ts b i = more b b' ts (granted a) i
taken_more (adds t b') a ts b i = more b b' ts (granted a) i
taken_more (covers t room) a ts b i = i
taken_more (closes t room) a ts b i = i
taken_more (compares q r) a ts b i = i
taken_more (abandons t) a ts b i = i

module _ (parent : ℕ → Option ℕ) (n : ℕ) (word : List ℕ → ℕ → Word) (T : Tree parent n) (L : Lawful word) (number : ℕ) where
  abbrev pub Node : List ℕ → Type 0
  Node b = (v : ℕ) × (v < n) × (b ≡ tag parent n word number v)

  -- for a rack of one tree number
  module _ (tree : ℕ) (two_bytes : tree ≤ most_number) where
    -- what is known of a node's tag that the rack takes
    pub record Known (b : List ℕ) : Type 0 where
      pub node : ℕ
      pub inside : node < n
      pub is_tag : b ≡ tag parent n word number node
      pub some_number : 1 ≤ number
      pub small : number ≤ most_number
      pub right : tree ≡ number

    known : (b : List ℕ) → Fitting tree b → Node b → Known b
    known b f N =
        let r = (is_readable b f.sound).number in
        let e : tree_of b ≡ number = ap (λ (x : List ℕ). tree_of x) N.2 ∙ tree_tag parent n word T L number N.0 in
        let q : tree ≡ number = sym f.right ∙ e in
        record { node = N.0; inside = N.1; is_tag = N.2; some_number = omega arith; small = omega arith; right = q }

    -- what is known of a held tag
    pub record Fine (h : List ℕ) (ts : List (List ℕ)) : Type 0 where
      pub node : ℕ
      pub deep : DeepestOf parent n word number ts node
      pub is_tag : h ≡ tag parent n word number node
      pub some_number : 1 ≤ number
      pub small : number ≤ most_number
      pub right : tree ≡ number

    fine_start : (b : List ℕ) → Known b → Fine b (b ∷ [])
    fine_start b k =
        record {
          node = k.node;
          deep =
              record {
                inside = k.inside;
                above = λ v m i. ⊎_elim (λ e. let s : v ≡ k.node = tag_one parent n word T L number k.some_number k.small v k.node m k.inside (e ∙ k.is_tag) in rw s here) (λ z. absurd z) i;
                deepest = λ e a. a k.node k.inside (inl (sym k.is_tag));
              };
          is_tag = k.is_tag;
          some_number = k.some_number;
          small = k.small;
          right = k.right;
        }

    -- the deepest node for a list of tags and one more is the deepest node at or above the two
    fine_add : (h b : List ℕ) (ts : List (List ℕ)) → Fine h ts → Known b → Fine (joined h b) (b ∷ ts)
    fine_add h b ts g k = go ((all_covers parent n word T L).there_is g.node k.node g.deep.inside k.inside)
      where
        go : (m : ℕ) × Deepest parent (g.node ∷ k.node ∷ []) m → Fine (joined h b) (b ∷ ts)
        go M =
            record {
              node = M.0;
              deep =
                  record {
                    inside = node T g.deep.inside M.1.above.0;
                    above = λ v i j.
                        ⊎_elim (λ q. let s : v ≡ k.node = tag_one parent n word T L number k.some_number k.small v k.node i k.inside (q ∙ k.is_tag) in rw s M.1.above.1.0)
                        (λ q. through M.1.above.0 (g.deep.above v i q)) j;
                    deepest = λ x a. M.1.lowest x (g.deep.deepest x (λ v i j. a v i (inr j)), (a k.node k.inside (inl (sym k.is_tag)), tt));
                  };
              is_tag =
                  ap (λ (x : List ℕ). joined x b) g.is_tag
                  ∙ (ap (λ (x : List ℕ). joined (tag parent n word number g.node) x) k.is_tag
                  ∙ joined_tag parent n word T L number k.some_number k.small g.node k.node M.0 g.deep.inside k.inside M.1);
              some_number = k.some_number;
              small = k.small;
              right = k.right;
            }

    -- a place, with the tags that it accepted since it was last opened
    abbrev pub Good : Cell → List (List ℕ) → Type 0
    Good empty ts = Unit {0}
    Good opened ts = ts ≡ []
    Good (started h) ts = Fine h ts

    -- of a call and its answer: what they accept is a node's tag
    abbrev pub Supposed : Call → Answer → Type 0
    Supposed (opens q) a = Unit {0}
    Supposed (starts t b) a = granted a ≡ true → Node b
    Supposed (adds t b) a = granted a ≡ true → Node b
    Supposed (covers t room) a = Unit {0}
    Supposed (closes t room) a = Unit {0}
    Supposed (compares q r) a = Unit {0}
    Supposed (abandons t) a = Unit {0}

    -- one call that names the place, case by case
    good_open : (t : Ticket) (v : Cell) (ts : List (List ℕ)) (w : Bool) → Good v ts
        → Good (cond w (opened_from v) v) (cond (granted (cond w (open_says t v) (refuses no_such_place None))) [] ts)
    good_open t v ts false g = g
    good_open t empty ts true g = refl
    good_open t opened ts true g = g
    good_open t (started h) ts true g = g

    start_new : (t : Ticket) (b : List ℕ) (ts : List (List ℕ)) (r : Option Refusal) → start_fault tree b ≡ r
        → (granted (verdict r t (hands (traded t))) ≡ true → Node b) → ts ≡ []
        → Good (settled r (started b) opened) (cond (granted (verdict r t (hands (traded t)))) (b ∷ ts) ts)
    start_new t b ts None e H g = subst (λ (xs : List (List ℕ)). Fine b (b ∷ xs)) (sym g) (fine_start b (known b (start_fitting tree b e) (H refl)))
    start_new t b ts (Some w) e H g = g

    good_start : (t : Ticket) (b : List ℕ) (v : Cell) (ts : List (List ℕ)) (w : Bool)
        → (granted (cond w (says tree t v (starting b)) (misfit t (starting b))) ≡ true → Node b) → Good v ts
        → Good (cond w (next tree v (starting b)) v) (cond (granted (cond w (says tree t v (starting b)) (misfit t (starting b)))) (b ∷ ts) ts)
    good_start t b v ts false H g = g
    good_start t b empty ts true H g = g
    good_start t b opened ts true H g = start_new t b ts (start_fault tree b) refl H g
    good_start t b (started h) ts true H g = g

    add_new : (t : Ticket) (h b : List ℕ) (ts : List (List ℕ)) (r : Option Refusal) → add_fault tree h b ≡ r
        → (granted (verdict r t (hands t)) ≡ true → Node b) → Fine h ts
        → Good (settled r (started (joined h b)) (started h)) (cond (granted (verdict r t (hands t))) (b ∷ ts) ts)
    add_new t h b ts None e H g = fine_add h b ts g (known b (add_fitting tree h b e) (H refl))
    add_new t h b ts (Some w) e H g = g

    good_add : (t : Ticket) (b : List ℕ) (v : Cell) (ts : List (List ℕ)) (w : Bool)
        → (granted (cond w (says tree t v (adding b)) (misfit t (adding b))) ≡ true → Node b) → Good v ts
        → Good (cond w (next tree v (adding b)) v) (cond (granted (cond w (says tree t v (adding b)) (misfit t (adding b)))) (b ∷ ts) ts)
    good_add t b v ts false H g = g
    good_add t b empty ts true H g = g
    good_add t b opened ts true H g = g
    good_add t b (started h) ts true H g = add_new t h b ts (add_fault tree h b) refl H g

    good_close : (room : ℕ) (v : Cell) (ts : List (List ℕ)) (w : Bool) → Good v ts → Good (cond w (next tree v (closing room)) v) ts
    good_close room v ts false g = g
    good_close room empty ts true g = g
    good_close room opened ts true g = g
    good_close room (started h) ts true g = go (leb (length h) room)
      where
        go : (o : Bool) → Good (cond o empty (started h)) ts
        go true = tt
        go false = g

    good_abandon : (v : Cell) (ts : List (List ℕ)) (w : Bool) → Good v ts → Good (cond w (next tree v abandoning) v) ts
    good_abandon v ts false g = g
    good_abandon empty ts true g = tt
    good_abandon opened ts true g = tt
    good_abandon (started h) ts true g = tt

    good_next : (num : ℕ) (v : Cell) (ts : List (List ℕ)) (c : Call) → Supposed c (place_says num tree v c) → Good v ts
        → Good (place_next num tree v c) (place_accepts ts c (place_says num tree v c))
    good_next num v ts (opens q) H g = good_open (opened_ticket num q) v ts (ltb q place_count) g
    good_next num v ts (starts t b) H g = good_start t b v ts (fits num v t) H g
    good_next num v ts (adds t b) H g = good_add t b v ts (fits num v t) H g
    good_next num v ts (covers t room) H g = g
    good_next num v ts (closes t room) H g = good_close room v ts (fits num v t) g
    good_next num v ts (compares q r) H g = g
    good_next num v ts (abandons t) H g = good_abandon v ts (fits num v t) g

    good_same : (v w : Cell) (ts us : List (List ℕ)) → v ≡ w → ts ≡ us → Good v ts → Good w us
    good_same v w ts us e h g = subst (λ (xs : List (List ℕ)). Good w xs) h (subst (λ (x : Cell). Good x ts) e g)

    good_after : (s : State) (p : ℕ) (ts : List (List ℕ)) (c : Call) → s.tree ≡ tree → length s.cells ≡ place_count → Supposed c (answer s c)
        → Good (cell s p) ts → Good (cell (after s c) p) (accepts p ts c (answer s c))
    good_after s p ts c m l H g = go (names p c) refl
      where
        go : (b : Bool) → names p c ≡ b → Good (cell (after s c) p) (accepts p ts c (answer s c))
        go true e =
            let said : place_says s.number tree (cell s p) c ≡ answer s c =
            ap (λ (x : ℕ). place_says s.number x (cell s p) c) (sym m) ∙ sym (says_here s p c e) in
            good_same _ _ _ _
            (ap (λ (x : ℕ). place_next s.number x (cell s p) c) (sym m) ∙ sym (next_here s p c l e))
            (ap (λ (a : Answer). place_accepts ts c a) said ∙ accepts_here p ts c (answer s c) e)
            (good_next s.number (cell s p) ts c (subst (λ (a : Answer). Supposed c a) (sym said) H) g)
        go false e = good_same _ _ _ _ (sym (next_there s p c e)) (accepts_there p ts c (answer s c) e) g

    -- what is supposed of a history, of its first call and of the rest
    supposed_first : (c : Call) (a : Answer) (h : History) → OfSheet parent n word number ((c, a) ∷ h) → Supposed c a
    supposed_first (opens q) a h O = tt
    supposed_first (starts t b) a h O = λ e. O b (subst (λ (w : Bool). In b (cond w (b ∷ taken h) (taken h))) (sym e) (inl refl))
    supposed_first (adds t b) a h O = λ e. O b (subst (λ (w : Bool). In b (cond w (b ∷ taken h) (taken h))) (sym e) (inl refl))
    supposed_first (covers t room) a h O = tt
    supposed_first (closes t room) a h O = tt
    supposed_first (compares q r) a h O = tt
    supposed_first (abandons t) a h O = tt

    supposed_rest : (c : Call) (a : Answer) (h : History) → OfSheet parent n word number ((c, a) ∷ h) → OfSheet parent n word number h
    supposed_rest c a h O = λ b i. O b (taken_more c a (taken h) b i)

    pub good_run : (cs : List Call) (s : State) (p : ℕ) (ts : List (List ℕ)) → s.tree ≡ tree → length s.cells ≡ place_count
        → OfSheet parent n word number (history the_rack s cs) → Good (cell s p) ts
        → Good (cell (run the_rack s cs) p) (accepted_from p ts (history the_rack s cs))
    good_run [] s p ts m l O g = g
    good_run (c ∷ cs) s p ts m l O g =
        good_run cs (after s c) p (accepts p ts c (answer s c))
        ((after_kept s c).tree_kept ∙ m) ((after_kept s c).length_kept ∙ l)
        (supposed_rest c (answer s c) (history the_rack (after s c) cs) O)
        (good_after s p ts c m l (supposed_first c (answer s c) (history the_rack (after s c) cs) O) g)
