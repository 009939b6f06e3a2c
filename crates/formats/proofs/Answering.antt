-- From the bytes of two tags to the answers.
use Rattle.std.proofs.Common.{◌≡◌, ℕ, zero, suc, ◌+◌, ◌-◌, ◌*◌, ◌/◌, ◌%◌, ◌≤◌, Bool, true, false, cond, not, ◌&&◌, eqb, ltb, List, [], ◌∷◌, map, length, take, pos, negsuc, ◌+ℤ◌, Some, None, Ok, Err, Option, sym, refl, ap, ◌∙◌, subst, arith}
use lib.IntN.{sub_ℕ}
use Rattle.std.specs.List.{range_with_len}
use Rattle.std.proofs.lemmas.List.{take_all}
use Rattle.std.proofs.lemmas.List.FromFn.{length-map-range_with_len, take-map-range_with_len, map-range_with_len_more}
use Rattle.std.proofs.lemmas.Bool.{eq-eqb, cond-true, cond-false, lt-ltb, le-ltb, ltb-true, ltb-false}
use Rattle.std.proofs.lemmas.Bool.Decides.{nat_tests}
use Rattle.formats.specs.declared.fault.PairRefusal.{PairRefusal}
use Rattle.formats.specs.declared.fault.PairRefusal.TheVariants.{TreeNumbers, NotOneTree}
use Rattle.formats.specs.declared.answers.Difference.{Difference}
use Rattle.formats.specs.declared.answers.Side.{Side}
use Rattle.formats.specs.declared.answers.Side.TheVariants.{First, Second}
use Rattle.formats.specs.declared.answers.Part.{Part}
use Rattle.formats.specs.declared.answers.Relation.{Relation}
use Rattle.formats.specs.declared.answers.Related.{Related}
use Rattle.formats.specs.Limits.{most_depth}
use Rattle.formats.specs.Label.{Field, Label, word_in}
use Rattle.formats.specs.Layout.{tree_of, count_of, depth_at}
use Rattle.formats.specs.Faults.{first_of, tag_fault}
use Rattle.formats.specs.Models.{field_at, label_of, outcome}
use Rattle.formats.specs.Pairs.{same_word, first_apart, nth_field, clash, difference_at, difference, cover_at, cover, side_of, fields_of, ended, relation_by, relation, last_depth, depth_in, related}
use Rattle.formats.specs.Queries.{fault_on, pair_fault, on_labels}
use Rattle.formats.specs.Theorems.{Shared, Exact}
use Rattle.formats.proofs.Readable.{is_readable}
use Rattle.formats.proofs.Fields.{path_here}
use Rattle.formats.proofs.Read.{chain_of}
use Rattle.formats.proofs.Spans.{shallow}
use Rattle.formats.proofs.Covering.{end_last, shared}

sub_back : (a b : ℕ) → sub_ℕ b a +ℤ pos a ≡ pos b
sub_back a b = go (ltb b a) refl
  where
    go : (t : Bool) → ltb b a ≡ t → cond t (negsuc (a - suc b)) (pos (b - a)) +ℤ pos a ≡ pos b
    go true e =
        let l = ltb-true b a e in
        let z : a - suc (a - suc b) ≡ b = omega arith in
        cond-false _ _ _ (le-ltb a (suc (a - suc b)) (omega arith)) ∙ ap pos z
    go false e = let l = ltb-false b a e in let z : b - a + a ≡ b = omega arith in ap pos z

-- labels of bytes

pub length_label : (bs : List ℕ) → length (label_of bs) ≡ count_of bs
length_label bs = length-map-range_with_len (field_at bs) 0 (count_of bs)

nth_map : (f : ℕ → Field) (n i j : ℕ) → nth_field (map f (range_with_len i n)) j ≡ cond (ltb j n) (Some (f (i + j))) None
unfolding nth_field
nth_map f zero i j = grind (arith, nat_tests)
nth_map f (suc n) i zero = let z : i ≡ i + 0 = omega arith in ap (λ k. Some (f k)) z ∙ sym (cond-true (ltb 0 (suc n)) (Some (f (i + 0))) None (lt-ltb 0 (suc n) (omega arith)))
nth_map f (suc n) i (suc j) =
    let z : i + 1 + j ≡ i + suc j = omega arith in
    nth_map f n (i + 1) j ∙ (λ t. cond (less j n t) (Some (f (z t))) None)
  where
    less : (a b : ℕ) → ltb a b ≡ ltb (suc a) (suc b)
    less a b = grind (arith, nat_tests)

-- the fields of bytes, one by one
pub nth_label : (bs : List ℕ) (i : ℕ) → nth_field (label_of bs) i ≡ cond (ltb i (count_of bs)) (Some (field_at bs i)) None
nth_label bs i = grind (arith, nth_map)

-- the depth that an odd number of fields ends with
pub depth_after : (bs : List ℕ) (n : ℕ) → n % 2 ≡ 1 → n ≤ count_of bs → last_depth (take n (label_of bs)) ≡ depth_at bs (n / 2)
depth_after bs n odd h =
    let y : 2 * (n / 2) + 1 ≡ n = omega arith in
    ap (λ k. last_depth (take k (label_of bs))) (sym y)
    ∙ ap last_depth (take-map-range_with_len (field_at bs) 0 (count_of bs) (2 * (n / 2) + 1) (omega arith) ∙ map-range_with_len_more (field_at bs) 0 (2 * (n / 2)) (2 * (n / 2)) (omega arith))
    ∙ end_last (map (field_at bs) (range_with_len 0 (2 * (n / 2)))) (field_at bs (2 * (n / 2)))
    ∙ ap depth_in (path_here bs (n / 2))

pub depth_whole : (bs : List ℕ) → tag_fault bs ≡ None → last_depth (label_of bs) ≡ depth_at bs (count_of bs / 2)
depth_whole bs f =
    sym (ap last_depth (take_all (count_of bs) (label_of bs) (omega (arith, length_label bs)))) ∙ depth_after bs (count_of bs) (is_readable bs f).odd (omega arith)

-- refusals

module _ (a b : List ℕ) where
  abbrev Last : Option PairRefusal
  Last = first_of ((not (eqb (tree_of a) (tree_of b)), TreeNumbers) ∷ (clash (label_of a) (label_of b), NotOneTree) ∷ [])

  module _ (f : tag_fault a ≡ None) where
    module _ (g : tag_fault b ≡ None) where
      to_last : pair_fault a b ≡ Last
      to_last = λ t. fault_on First (f t) (fault_on Second (g t) Last)

      module _ (n : tree_of a ≡ tree_of b) where
        to_clash : pair_fault a b ≡ cond (clash (label_of a) (label_of b)) (Some NotOneTree) None
        to_clash = to_last ∙ cond-false _ _ _ (ap not (eq-eqb (tree_of a) (tree_of b) n))

        pub fault_clash : clash (label_of a) (label_of b) ≡ true → pair_fault a b ≡ Some NotOneTree
        fault_clash c = to_clash ∙ cond-true _ _ _ c

        pub fault_none : clash (label_of a) (label_of b) ≡ false → pair_fault a b ≡ None
        fault_none c = to_clash ∙ cond-false _ _ _ c

-- two readable tags that are not refused, and the first field number at which one has ended or the words differ
pub record Paired (a b : List ℕ) (j : ℕ) : Type 0 where
  pub first : tag_fault a ≡ None
  pub second : tag_fault b ≡ None
  pub fine : pair_fault a b ≡ None
  pub clear : clash (label_of a) (label_of b) ≡ false
  pub at : j ≡ first_apart (label_of a) (label_of b)

-- an answer that is made, and one that is refused
pub answered : {X : Type 0} (q : Label → Label → X) (x : X) (a b : List ℕ) → pair_fault a b ≡ None → x ≡ q (label_of a) (label_of b) → Ok x ≡ on_labels q a b
answered q x a b f e = (λ t. Ok (e t)) ∙ sym (λ t. outcome (f t) (q (label_of a) (label_of b)))

pub refused : {X : Type 0} (q : Label → Label → X) (e : PairRefusal) (a b : List ℕ) → pair_fault a b ≡ Some e → Err e ≡ on_labels q a b
refused q e a b h = sym (λ t. outcome (h t) (q (label_of a) (label_of b)))

apart_within : (l m : Label) → first_apart l m ≤ length l
unfolding first_apart
apart_within [] m = omega arith
apart_within (x ∷ l) [] = omega arith
apart_within (x ∷ l) (y ∷ m) = go (same_word (word_in x) (word_in y)) (apart_within l m)
  where
    go : (t : Bool) → first_apart l m ≤ length l → cond t (suc (first_apart l m)) 0 ≤ suc (length l)
    go true h = omega arith
    go false h = omega arith

module _ (a b : List ℕ) (j : ℕ) (h : Paired a b j) where
  pub difference_here : (d : Difference) → d ≡ difference_at j (nth_field (label_of a) j) (nth_field (label_of b) j) → d ≡ difference (label_of a) (label_of b)
  unfolding difference
  difference_here d e = let p = h.at in e ∙ (λ t. difference_at (p t) (nth_field (label_of a) (p t)) (nth_field (label_of b) (p t)))

  module _ (p : Part) (e : p ≡ cover_at (count_of a) (count_of b) j (nth_field (label_of a) j) (nth_field (label_of b) j)) where
    pub cover_here : p ≡ cover (label_of a) (label_of b)
    unfolding cover
    cover_here =
        let i = h.at in
        let k = sym (length_label a) in
        let n = sym (length_label b) in
        e ∙ (λ t. cover_at (k t) (n t) (i t) (nth_field (label_of a) (i t)) (nth_field (label_of b) (i t)))

    -- the cover can be cut out, and is no deeper than either
    pub shared_here : Shared (label_of a) (label_of b) p
    shared_here =
        subst (Shared (label_of a) (label_of b)) (sym cover_here)
        (shared 0 (label_of a) (label_of b) (chain_of a (is_readable a h.first)) (chain_of b (is_readable b h.second)) h.clear)

    relation_here : (s : Relation) → s ≡ relation_by (ended (nth_field (label_of a) j) && ended (nth_field (label_of b) j)) p (count_of a) (count_of b) → s ≡ relation (label_of a) (label_of b)
    unfolding relation
    relation_here s g =
        let i = h.at in
        let k = sym (length_label a) in
        let n = sym (length_label b) in
        let c = cover_here in
        g ∙ (λ t. relation_by (ended (nth_field (label_of a) (i t)) && ended (nth_field (label_of b) (i t))) (c t) (k t) (n t))

    -- the bytes on that side have the fields
    pub side_within : p.fields ≤ count_of (side_of p.side a b)
    side_within = go p.side p.fields shared_here.within
      where
        go : (s : Side) (n : ℕ) → n ≤ length (side_of s (label_of a) (label_of b)) → n ≤ count_of (side_of s a b)
        go First n g = omega (arith, length_label a)
        go Second n g = omega (arith, length_label b)

    depth_here : depth_at (side_of p.side a b) (p.fields / 2) ≡ last_depth (fields_of p (label_of a) (label_of b))
    depth_here = go p.side p.fields shared_here.odd side_within
      where
        go : (s : Side) (n : ℕ) → n % 2 ≡ 1 → n ≤ count_of (side_of s a b) → depth_at (side_of s a b) (n / 2) ≡ last_depth (take n (side_of s (label_of a) (label_of b)))
        go First n o g = sym (depth_after a n o g)
        go Second n o g = sym (depth_after b n o g)

    pub deep_first : depth_at a (count_of a / 2) ≤ most_depth
    deep_first = shallow a (is_readable a h.first) (count_of a / 2) (omega (arith, (is_readable a h.first).odd))

    pub deep_second : depth_at b (count_of b / 2) ≤ most_depth
    deep_second = shallow b (is_readable b h.second) (count_of b / 2) (omega (arith, (is_readable b h.second).odd))

    -- twice the cover's depth is at most the sum of both
    pub steps_fit : 2 * depth_at (side_of p.side a b) (p.fields / 2) ≤ depth_at a (count_of a / 2) + depth_at b (count_of b / 2)
    steps_fit =
        omega (arith, depth_here, depth_whole a h.first, depth_whole b h.second, shared_here.first, shared_here.second)

    module _ (r : Related) (u : r.relation ≡ relation_by (ended (nth_field (label_of a) j) && ended (nth_field (label_of b) j)) p (count_of a) (count_of b)) (v : r.deeper ≡ sub_ℕ (depth_at b (count_of b / 2)) (depth_at a (count_of a / 2))) (w : r.steps ≡ depth_at a (count_of a / 2) + depth_at b (count_of b / 2) - 2 * depth_at (side_of p.side a b) (p.fields / 2)) where
      pub related_here : r ≡ related (label_of a) (label_of b)
      unfolding related
      related_here =
          let rel = relation_here r.relation u in
          let d = sym (depth_whole a h.first) in
          let e' = sym (depth_whole b h.second) in
          let c = depth_here ∙ ap (λ q. last_depth (fields_of q (label_of a) (label_of b))) cover_here in
          let dee = v ∙ (λ t. sub_ℕ (e' t) (d t)) in
          let ste = w ∙ (λ t. d t + e' t - 2 * c t) in
          λ t. record { relation = rel t; deeper = dee t; steps = ste t }

      pub exact_here : Exact (label_of a) (label_of b) r
      exact_here =
          let d = sym (depth_whole a h.first) in
          let e' = sym (depth_whole b h.second) in
          let c = depth_here ∙ ap (λ q. last_depth (fields_of q (label_of a) (label_of b))) cover_here in
          record {
            deeper = ap (λ z. z +ℤ pos (last_depth (label_of a))) (v ∙ (λ t. sub_ℕ (e' t) (d t))) ∙ sub_back (last_depth (label_of a)) (last_depth (label_of b));
            steps = omega (arith, w, d, e', c, steps_fit);
            few = omega (arith, w, deep_first, deep_second);
          }
