-- Two labels field by field: a common front, and how they go on after it.
use Rattle.std.proofs.Common.{◌≡◌, ℕ, suc, ◌+◌, ◌<◌, Bool, true, false, cond, not, ◌&&◌, eqb, [], ◌∷◌, ◌++◌, length, get_or, take, drop, Some, None, Option, sym, refl, ap, ◌∙◌, subst₂, arith, take-append-drop, drop-cons}
use Rattle.std.proofs.lemmas.Bool.{eq-eqb, ne_eqb, lt-ltb}
use Rattle.std.proofs.lemmas.Bool.Decides.{nat_tests}
use Rattle.codes.specs.Words.{Before}
use Rattle.codes.specs.Forks.{Forks}
use Rattle.formats.specs.declared.answers.Side.{Side}
use Rattle.formats.specs.declared.answers.Side.TheVariants.{First, Second}
use Rattle.formats.specs.declared.answers.Part.{Part}
use Rattle.formats.specs.declared.answers.Relation.{Relation}
use Rattle.formats.specs.declared.answers.Relation.TheVariants.{Same, FirstAbove, SecondAbove, Apart}
use Rattle.formats.specs.Label.{Word, Field, path, branch, Label, word_in}
use Rattle.formats.specs.Pairs.{same_word, zero_first, begins, first_apart, nth_field, unlike, two_depths, clash, cover_at, cover, side_of, fields_of, ended, relation_by, relation}

-- ---- words

forks : (a b : Word) → Before a b → Forks a b
forks a b h =
    record {
      common = take h.place a;
      rest_first = drop (suc h.place) a;
      rest_second = drop (suc h.place) b;
      is_first = at a true h.inside_first ∙ ap (λ x. take h.place a ++ (x ∷ drop (suc h.place) a)) h.zero_there;
      is_second = at b false h.inside_second ∙ (λ t. sym h.agree t ++ (h.one_there t ∷ drop (suc h.place) b));
    }
  where
    at : (w : Word) (d : Bool) → h.place < length w → w ≡ take h.place w ++ (get_or w h.place d ∷ drop (suc h.place) w)
    at w d l = sym (take-append-drop h.place w) ∙ ap (λ r. take h.place w ++ r) (drop-cons w h.place d l)

same_refl : (w : Word) → same_word w w ≡ true
unfolding same_word
same_refl [] = refl
same_refl (true ∷ w) = same_refl w
same_refl (false ∷ w) = same_refl w

-- after a common front s, one word has 0 and the other 1
record Parted (a b : Word) (zero_in_first : Bool) : Type 0 where
  differ : same_word a b ≡ false
  order : zero_first a b ≡ zero_in_first
  neither : begins a b ≡ false

part : (s : Word) (x : Bool) (a b : Word) → Parted (s ++ (x ∷ a)) (s ++ (not x ∷ b)) (not x)
unfolding same_word zero_first begins
part [] true a b = record { differ = refl; order = refl; neither = refl }
part [] false a b = record { differ = refl; order = refl; neither = refl }
part (true ∷ s) x a b = let p = part s x a b in record { differ = p.differ; order = p.order; neither = p.neither }
part (false ∷ s) x a b = let p = part s x a b in record { differ = p.differ; order = p.order; neither = p.neither }

module _ (a b : Word) (h : Before a b) where
  ahead : Parted a b true
  ahead = let f = forks a b h in subst₂ (λ (x y : Word). Parted x y true) (sym f.is_first) (sym f.is_second) (part f.common false f.rest_first f.rest_second)

  behind : Parted b a false
  behind = let f = forks a b h in subst₂ (λ (x y : Word). Parted x y false) (sym f.is_second) (sym f.is_first) (part f.common true f.rest_second f.rest_first)

-- ---- labels

-- two labels can be of one tree, c is their cover, and r is how they stand to each other
pub record Meets (l m c : Label) (r : Relation) : Type 0 where
  pub calm : clash l m ≡ false
  pub part : fields_of (cover l m) l m ≡ c
  pub way : relation l m ≡ r

-- where one has ended
pub both_ended : Meets [] [] [] Same
unfolding clash cover relation first_apart nth_field two_depths
both_ended = record { calm = refl; part = refl; way = refl }

pub first_ended : (y : Field) (m : Label) → Meets [] (y ∷ m) [] FirstAbove
unfolding clash cover relation first_apart nth_field two_depths
first_ended y m = record { calm = refl; part = refl; way = refl }

pub second_ended : (x : Field) (l : Label) → Meets (x ∷ l) [] [] SecondAbove
unfolding clash cover relation first_apart nth_field two_depths
second_ended x l = record { calm = refl; part = refl; way = refl }

-- where the words fork
longer : (k : ℕ) → eqb 1 (suc (suc k)) ≡ false
longer k = ne_eqb 1 (suc (suc k)) (λ e. omega arith)

some : (k : ℕ) → eqb 0 (suc k) ≡ false
some k = ne_eqb 0 (suc k) (λ e. omega arith)

module _ (a b : Word) (h : Before a b) where
  pub fork_ends : (d e : ℕ) (m : Label) → d < e → Meets (path a d ∷ []) (path b e ∷ m) (path a d ∷ []) FirstAbove
  unfolding clash cover relation first_apart nth_field two_depths
  fork_ends d e m k =
      let p = ahead a b h in let q = behind a b h in
      record {
        calm = rw (p.differ, p.neither, q.neither, p.order, lt-ltb d e k) refl;
        part = rw (p.differ, p.order) refl;
        way = rw (p.differ, p.order) refl;
      }

  pub fork_ends' : (d e : ℕ) (m : Label) → d < e → Meets (path b e ∷ m) (path a d ∷ []) (path a d ∷ []) SecondAbove
  unfolding clash cover relation first_apart nth_field two_depths
  fork_ends' d e m k =
      let p = ahead a b h in let q = behind a b h in
      record {
        calm = rw (q.differ, q.neither, p.neither, q.order, lt-ltb d e k) refl;
        part = rw (q.differ, q.order) refl;
        way = rw (q.differ, q.order) refl;
      }

  pub fork_on : (d e : ℕ) (x : Field) (l m : Label) → d < e → Meets (path a d ∷ x ∷ l) (path b e ∷ m) (path a d ∷ []) Apart
  unfolding clash cover relation first_apart nth_field two_depths
  fork_on d e x l m k =
      let p = ahead a b h in let q = behind a b h in
      record {
        calm = rw (p.differ, p.neither, q.neither, p.order, lt-ltb d e k) refl;
        part = rw (p.differ, p.order) refl;
        way = rw (p.differ, p.order, longer (length l)) refl;
      }

  pub fork_on' : (d e : ℕ) (x : Field) (l m : Label) → d < e → Meets (path b e ∷ m) (path a d ∷ x ∷ l) (path a d ∷ []) Apart
  unfolding clash cover relation first_apart nth_field two_depths
  fork_on' d e x l m k =
      let p = ahead a b h in let q = behind a b h in
      record {
        calm = rw (q.differ, q.neither, p.neither, q.order, lt-ltb d e k) refl;
        part = rw (q.differ, q.order) refl;
        way = rw (q.differ, q.order, longer (length l)) refl;
      }

  pub fork_branch : (l m : Label) → Meets (branch a ∷ l) (branch b ∷ m) [] Apart
  unfolding clash cover relation first_apart nth_field two_depths
  fork_branch l m =
      let p = ahead a b h in let q = behind a b h in
      record {
        calm = rw (p.differ, p.neither, q.neither) refl;
        part = rw p.differ refl;
        way = rw (p.differ, some (length l)) refl;
      }

  pub fork_branch' : (l m : Label) → Meets (branch b ∷ l) (branch a ∷ m) [] Apart
  unfolding clash cover relation first_apart nth_field two_depths
  fork_branch' l m =
      let p = ahead a b h in let q = behind a b h in
      record {
        calm = rw (q.differ, q.neither, p.neither) refl;
        part = rw q.differ refl;
        way = rw (q.differ, some (length l)) refl;
      }

-- one field more in front of both
abbrev bump : Part → Part
bump p = record { side = p.side; fields = suc p.fields }

module _ (x : Field) (l m : Label) where
  cover_more : cover (x ∷ l) (x ∷ m) ≡ bump (cover l m)
  unfolding cover first_apart nth_field
  cover_more = rw (same_refl (word_in x)) (go (first_apart l m) (nth_field l (first_apart l m)) (nth_field m (first_apart l m)))
    where
      go : (j : ℕ) (p q : Option Field) → cover_at (suc (length l)) (suc (length m)) (suc j) p q ≡ bump (cover_at (length l) (length m) j p q)
      go j None q = refl
      go j (Some p) None = refl
      go j (Some (branch a)) (Some q) = refl
      go j (Some (path a d)) (Some q) = let z : suc j + 1 ≡ suc (j + 1) = omega arith in pick (zero_first a (word_in q)) z
        where
          pick : (t : Bool) {i k : ℕ} → i ≡ suc k → cond {A = Part} t (record { side = First; fields = i }) (record { side = Second; fields = i }) ≡ bump (cond {A = Part} t (record { side = First; fields = k }) (record { side = Second; fields = k }))
          pick true e = λ t. record { side = First; fields = e t }
          pick false e = λ t. record { side = Second; fields = e t }

  like_self : (y : Field) → unlike y y ≡ false
  like_self (path a d) = rw (eq-eqb d d refl) refl
  like_self (branch a) = refl

  clash_more : clash (x ∷ l) (x ∷ m) ≡ clash l m
  unfolding clash first_apart nth_field two_depths
  clash_more = rw (same_refl (word_in x), like_self x) refl

  fields_more : fields_of (cover (x ∷ l) (x ∷ m)) (x ∷ l) (x ∷ m) ≡ x ∷ fields_of (cover l m) l m
  fields_more = ap (λ p. fields_of p (x ∷ l) (x ∷ m)) cover_more ∙ go (cover l m).side (cover l m).fields
    where
      go : (s : Side) (k : ℕ) → take (suc k) (side_of s (x ∷ l) (x ∷ m)) ≡ x ∷ take k (side_of s l m)
      go First k = refl
      go Second k = refl

  relation_more : relation (x ∷ l) (x ∷ m) ≡ relation l m
  unfolding relation first_apart nth_field
  relation_more =
      rw (cover_more, same_refl (word_in x))
      (go (ended (nth_field l (first_apart l m)) && ended (nth_field m (first_apart l m))) (cover l m).side (cover l m).fields)
    where
      next : (i k : ℕ) → eqb (suc i) (suc k) ≡ eqb i k
      next i k = grind (arith, nat_tests)

      go : (b : Bool) (s : Side) (k : ℕ) → relation_by b (record { side = s; fields = suc k }) (suc (length l)) (suc (length m)) ≡ relation_by b (record { side = s; fields = k }) (length l) (length m)
      go b First k = ap (λ t. cond b Same (cond t FirstAbove Apart)) (next k (length l))
      go b Second k = ap (λ t. cond b Same (cond t SecondAbove Apart)) (next k (length m))

pub meets_more : (x : Field) {l m c : Label} {r : Relation} → Meets l m c r → Meets (x ∷ l) (x ∷ m) (x ∷ c) r
meets_more x {l} {m} M =
    record {
      calm = clash_more x l m ∙ M.calm;
      part = fields_more x l m ∙ ap {B = Label} (λ c. x ∷ c) M.part;
      way = relation_more x l m ∙ M.way;
    }

-- a common front
pub meets_after : (f : Label) {l m c : Label} {r : Relation} → Meets l m c r → Meets (f ++ l) (f ++ m) (f ++ c) r
meets_after [] M = M
meets_after (x ∷ f) M = meets_more x (meets_after f M)
