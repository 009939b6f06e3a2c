-- The walk along two labels, field by field, to the first at which one has ended or the words differ.
use Rattle.std.proofs.Common.{◌≡◌, ℕ, zero, suc, ◌+◌, true, false, ◌||◌, [], ◌∷◌, drop, Some, None, sym, refl, ap, ◌∙◌, subst, add-one, arith}
use Rattle.formats.specs.Label.{Field, Label, word_in}
use Rattle.formats.specs.Pairs.{same_word, unlike, first_apart, nth_field, two_depths, clash_at, clash}

-- the fields from j on decide
pub record Walked (l m : Label) (j : ℕ) : Type 0 where
  pub apart : first_apart l m ≡ j + first_apart (drop j l) (drop j m)
  pub clashes : clash l m ≡ clash (drop j l) (drop j m)

-- what is left from j on
rest_none : (l : Label) (j : ℕ) → None ≡ nth_field l j → drop j l ≡ []
unfolding nth_field
rest_none [] zero h = refl
rest_none [] (suc j) h = refl
rest_none (x ∷ l) zero h = let z : ◌≡◌ {A = ℕ} 0 1 = cc in absurd (omega arith)
rest_none (x ∷ l) (suc j) h = rest_none l j h

rest_some : (l : Label) (j : ℕ) (x : Field) → Some x ≡ nth_field l j → drop j l ≡ x ∷ drop (suc j) l
unfolding nth_field
rest_some [] j x h = let z : ◌≡◌ {A = ℕ} 0 1 = cc in absurd (omega arith)
rest_some (y ∷ l) zero x h = let e : y ≡ x = cc in ap (λ f. f ∷ l) e
rest_some (y ∷ l) (suc j) x h = rest_some l j x h

-- one field in front of both
clash_two : (x y : Field) (l m : Label) → same_word (word_in x) (word_in y) ≡ true → unlike x y ≡ true → clash (x ∷ l) (y ∷ m) ≡ true
unfolding clash first_apart nth_field two_depths
clash_two x y l m s u = rw (s, u)

clash_more : (x y : Field) (l m : Label) → same_word (word_in x) (word_in y) ≡ true → unlike x y ≡ false → clash (x ∷ l) (y ∷ m) ≡ clash l m
unfolding clash first_apart nth_field two_depths
clash_more x y l m s u = rw (s, u)

apart_more : (x y : Field) (l m : Label) → same_word (word_in x) (word_in y) ≡ true → first_apart (x ∷ l) (y ∷ m) ≡ suc (first_apart l m)
unfolding first_apart
apart_more x y l m s = rw s

apart_here : (x y : Field) (l m : Label) → same_word (word_in x) (word_in y) ≡ false → first_apart (x ∷ l) (y ∷ m) ≡ 0
unfolding first_apart
apart_here x y l m s = rw s

-- where the rests are known
module _ (l m : Label) (j : ℕ) (w : Walked l m j) where
  -- one has ended, or the words differ
  pub first_ended : None ≡ nth_field l j → j ≡ first_apart l m
  unfolding first_apart
  first_ended p = let e = rest_none l j p in omega (arith, w.apart, ap (λ v. first_apart v (drop j m)) e)

  pub second_ended : None ≡ nth_field m j → j ≡ first_apart l m
  unfolding first_apart
  second_ended q = omega (arith, w.apart, ap (first_apart (drop j l)) (rest_none m j q), none (drop j l))
    where
      none : (v : Label) → first_apart v [] ≡ 0
      none [] = refl
      none (x ∷ v) = refl

  module _ (x y : Field) (p : Some x ≡ nth_field l j) (q : Some y ≡ nth_field m j) where
    pub words_differ : same_word (word_in x) (word_in y) ≡ false → j ≡ first_apart l m
    words_differ s =
        let e = rest_some l j x p in
        let f = rest_some m j y q in
        omega (arith, w.apart, (λ t. first_apart (e t) (f t)) ∙ apart_here x y (drop (suc j) l) (drop (suc j) m) s)

    pub depths_differ : same_word (word_in x) (word_in y) ≡ true → unlike x y ≡ true → clash l m ≡ true
    depths_differ s u =
        let e = rest_some l j x p in
        let f = rest_some m j y q in
        w.clashes ∙ (λ t. clash (e t) (f t)) ∙ clash_two x y (drop (suc j) l) (drop (suc j) m) s u

    pub go_on : same_word (word_in x) (word_in y) ≡ true → unlike x y ≡ false → Walked l m (j + 1)
    go_on s u =
        let e = rest_some l j x p in
        let f = rest_some m j y q in
        let a = (λ t. first_apart (e t) (f t)) ∙ apart_more x y (drop (suc j) l) (drop (suc j) m) s in
        subst (Walked l m) (sym (add-one j)) (record {
          apart = omega (arith, w.apart, a);
          clashes = w.clashes ∙ (λ t. clash (e t) (f t)) ∙ clash_more x y (drop (suc j) l) (drop (suc j) m) s u;
        })

-- where the walk has ended, field j decides
pub ended_clash : (l m : Label) (j : ℕ) → j ≡ first_apart l m → Walked l m j → clash l m ≡ clash_at (nth_field l j) (nth_field m j)
unfolding clash two_depths nth_field
ended_clash l m j e w =
    let z : first_apart (drop j l) (drop j m) ≡ 0 = omega (arith, w.apart) in
    w.clashes ∙ at_start (drop j l) (drop j m) z ∙ (λ t. clash_at (nth_drop l j t) (nth_drop m j t))
  where
    at_start : (u v : Label) → first_apart u v ≡ 0 → clash u v ≡ clash_at (nth_field u 0) (nth_field v 0)
    at_start u v e = λ t. two_depths (e t) u v || clash_at (nth_field u (e t)) (nth_field v (e t))

    nth_drop : (u : Label) (i : ℕ) → nth_field (drop i u) 0 ≡ nth_field u i
    nth_drop [] zero = refl
    nth_drop [] (suc i) = refl
    nth_drop (x ∷ u) zero = refl
    nth_drop (x ∷ u) (suc i) = nth_drop u i
