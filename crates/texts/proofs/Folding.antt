-- A number as a fold over its bytes that stops at the first that is no digit or passes the limit.
use Rattle.std.proofs.Common.{◌≡◌, ℕ, ◌<◌, length, List, [], ◌∷◌, Some, None, Option, Iter, Bor, refl, sym, ap, ◌∙◌, subst, arith}
use Rattle.std.proofs.lemmas.Fn.{fronts}
use Rattle.std.specs.ControlFlow.{continue_value}
use Rattle.std.specs.Fn.{Called}
use Rattle.std.specs.Iterator.{Yields, TryFoldTurn, TryFoldsItems}
use Rattle.std.specs.List.{FoldsTo}
use Rattle.std.specs.Option.{MatchOption}
use denote.Param.Members.{Mut}
use Rattle.texts.specs.Numbers.{one_more, and_then, goes_on, number_of}

-- one byte more
goes_by : (most v b : ℕ) (o : Option ℕ) (bs : List ℕ) → o ≡ one_more most v b → goes_on most v (b ∷ bs) ≡ and_then o (λ w. goes_on most w bs)
goes_by most v b o bs e = ap (λ o. and_then o (λ w. goes_on most w bs)) (sym e)

-- no byte more
goes_to : (most v : ℕ) (bs : List ℕ) → length bs ≡ 0 → goes_on most v bs ≡ Some v
goes_to most v [] e = refl
goes_to most v (b ∷ bs) e = absurd (omega arith)

begins : (most : ℕ) (bs : List ℕ) → 0 < length bs → goes_on most 0 bs ≡ number_of most bs
begins most [] h = absurd (omega arith)
begins most (b ∷ bs) h = refl

-- calls of the closure f take a step each, and leave it as it was
abbrev pub Steps : {F : Type 0} → Mut F (ℕ × (Bor ℕ × Unit {0})) (Option ℕ) → F → ℕ → Type 0
Steps {F} g f most = (v : ℕ) (x : Bor ℕ) (r : Option ℕ) (q : F) → Called g f (v, (x, tt)) r q → (r ≡ one_more most v x.now) × (q ≡ f)

module _ {F : Type 0} (E : Type 0) (g : Mut F (ℕ × (Bor ℕ × Unit {0})) (Option ℕ)) (f : F) (most : ℕ) where
  abbrev Turn : F × ℕ → Bor ℕ → F × ℕ → Type 0
  Turn = TryFoldTurn {E = E} g (λ o r. o ≡ continue_value r)

  turns :
      Steps g f most → (xs : List (Bor ℕ)) (s t : Iter ℕ) (v a : ℕ) (j : F) → Yields fronts s xs t → FoldsTo {P = F × ℕ} Turn (f, v) xs (j, a)
      → (goes_on most v s.rest.now ≡ goes_on most a t.rest.now) × (j ≡ f)
  turns is [] s t v a j y c = (ap (λ s. goes_on most v s.rest.now) y ∙ ap (λ (q : F × ℕ). goes_on most q.1 t.rest.now) c, sym (ap (λ (q : F × ℕ). q.0) c))
  turns is (x ∷ xs) s t v a j y c =
      let k = is v x c.1.0 c.0.0 c.1.1 in
      let rest = subst (λ (q : F × ℕ). FoldsTo {P = F × ℕ} Turn q xs (j, a)) {x = c.0} {y = (f, c.0.1)} (λ i. (k.1 i, c.0.1)) c.2 in
      let u = turns is xs y.0 t c.0.1 a j y.2 rest in
      (ap (goes_on most v) y.1 ∙ (goes_by most v x.now (Some c.0.1) y.0.rest.now (sym c.1.2 ∙ k.0) ∙ u.0), u.1)

  ends :
      Steps g f most → (o : Option (Bor ℕ)) (t u : Iter ℕ) (a : ℕ) (r : Option ℕ) (j : F) → fronts t o u → j ≡ f
      → MatchOption o (r ≡ Some a) (λ x. (w : Option ℕ) × (h : F) × E × Called g j (a, (x, tt)) w h × (w ≡ None) × (r ≡ None))
      → r ≡ goes_on most a t.rest.now
  ends is None t u a r j y e m = m ∙ sym (goes_to most a t.rest.now y.0)
  ends is (Some x) t u a r j y e m =
      let k = is a x m.0 m.1 (subst (λ i. Called g i (a, (x, tt)) m.0 m.1) e m.3) in
      m.5 ∙ sym (ap (goes_on most a) y ∙ goes_by most a x.now None u.rest.now (sym m.4 ∙ k.0))

  pub folded :
      (bs : List ℕ) (s u : Iter ℕ) (r : Option ℕ) → Steps g f most → 0 < length bs → s.rest.now ≡ bs
      → TryFoldsItems fronts g (λ o r. o ≡ continue_value r) (λ (e : E) r. r ≡ None) s f 0 r u → r ≡ number_of most bs
  folded bs s u r is h b d =
      let k = turns is d.0 s d.4.0 0 d.3 d.2 d.4.1 d.5 in
      ends is d.1 d.4.0 u d.3 r d.2 d.4.2 k.1 d.6 ∙ (sym k.0 ∙ (ap (goes_on most 0) b ∙ begins most bs h))
