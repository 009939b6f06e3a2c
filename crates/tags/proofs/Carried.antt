-- A test of each number below a bound, by a fold that carries from each number to the next what the test needs.
use Rattle.std.proofs.Common.{◌≡◌, ℕ, zero, suc, ◌+◌, ◌<◌, ◌≤◌, Bool, true, false, ◌&&◌, List, [], ◌∷◌, Some, None, Option, refl, sym, ap, ◌∙◌, subst, ⊎_elim, add-one, arith}
use Rattle.std.proofs.iter.Yields.{nat_range_steps}
use Rattle.std.proofs.lemmas.Bool.{and_left, and_right, cases_eq}
use Rattle.std.specs.Bool.{then_some}
use Rattle.std.specs.ControlFlow.{continue_value}
use Rattle.std.specs.Fn.{Called}
use Rattle.std.specs.Iterator.{Yields, TryFoldTurn, TryFoldsItems}
use Rattle.std.specs.List.{FoldsTo}
use Rattle.std.specs.Option.{MatchOption, is_some}
use Rattle.std.specs.declared.ops.Range.{Range}
use denote.Param.Members.{Mut}
use Rattle.formats.specs.Layout.{all_below}

module _ (p : ℕ → Bool) where
  fine_more : (i : ℕ) → p i ≡ true → all_below p (i + 1) ≡ all_below p i
  fine_more i e = ap (all_below p) (add-one i) ∙ ap (λ b. b && all_below p i) e

  not_fine : (n i : ℕ) → i < n → p i ≡ false → all_below p n ≡ false
  not_fine zero i l e = absurd (omega arith)
  not_fine (suc n) i l e =
      ⊎_elim (λ q. and_left _ _ (sym (ap p q) ∙ e)) (λ q. and_right _ _ (not_fine n i (omega arith) e)) (cases_eq i n)

passes : (b : Bool) (w v : ℕ) → Some v ≡ then_some b w → (b ≡ true) × (v ≡ w)
passes true w v e = (refl, cc)
passes false w v e = cc

fails : (b : Bool) (w : ℕ) → None ≡ then_some b w → b ≡ false
fails true w e = cc
fails false w e = refl

-- a call of the closure f at i, with what is carried to i, makes the test and carries on; and f stays as it was
abbrev pub Carries : {F : Type 0} → Mut F (ℕ × (ℕ × Unit {0})) (Option ℕ) → F → (ℕ → Bool) → (ℕ → ℕ) → Type 0
Carries {F} g f p b = (i : ℕ) (r : Option ℕ) (q : F) → Called g f (b i, (i, tt)) r q → (r ≡ then_some (p i) (b (suc i))) × (q ≡ f)

-- the turns from s to t passed, a is what they carry on, and j is the closure
record Passed {F : Type 0} (f : F) (p : ℕ → Bool) (b : ℕ → ℕ) (s t : Range ℕ) (a : ℕ) (j : F) : Type 0 where
  same : j ≡ f
  carried : a ≡ b t.start
  fine : all_below p t.start ≡ all_below p s.start
  kept_end : t.end ≡ s.end
  within : s.start ≤ s.end → t.start ≤ t.end

module _ {F : Type 0} (E : Type 0) (g : Mut F (ℕ × (ℕ × Unit {0})) (Option ℕ)) (f : F) (p : ℕ → Bool) (b : ℕ → ℕ) where
  abbrev Turn : F × ℕ → ℕ → F × ℕ → Type 0
  Turn = TryFoldTurn {E = E} g (λ o r. o ≡ continue_value r)

  -- v is what is carried to the first number
  turns :
      Carries g f p b → (xs : List ℕ) (s t : Range ℕ) (v a : ℕ) (j : F) → v ≡ b s.start → Yields nat_range_steps s xs t
      → FoldsTo {P = F × ℕ} Turn (f, v) xs (j, a) → Passed f p b s t a j
  turns is [] s t v a j w y c = record {
    same = sym (ap (λ (q : F × ℕ). q.0) c);
    carried = sym (ap (λ (q : F × ℕ). q.1) c) ∙ (w ∙ ap (λ (k : Range ℕ). b k.start) y);
    fine = sym (ap (λ (k : Range ℕ). all_below p k.start) y);
    kept_end = sym (ap (λ (k : Range ℕ). k.end) y);
    within = λ l. omega (arith, ap (λ (k : Range ℕ). k.start) y, ap (λ (k : Range ℕ). k.end) y);
  }
  turns is (x ∷ xs) s t v a j w y c =
      let u = y.0 in
      let at : v ≡ b x = w ∙ sym (ap b y.1.1.1) in
      let k = is x c.1.0 c.0.0 (subst (λ n. Called g f (n, (x, tt)) c.1.0 c.0.0) at c.1.1) in
      let d = passes (p x) (b (suc x)) c.0.1 (sym c.1.2 ∙ k.0) in
      let on : u.start ≡ suc x = omega (arith, y.1.1.1, y.1.1.2) in
      let rest = subst (λ (q : F × ℕ). FoldsTo {P = F × ℕ} Turn q xs (j, a)) {x = c.0} {y = (f, c.0.1)} (λ i. (k.1 i, c.0.1)) c.2 in
      let m = turns is xs u t c.0.1 a j (d.1 ∙ sym (ap b on)) y.2 rest in
      record {
        same = m.same;
        carried = m.carried;
        fine = m.fine ∙ (ap (all_below p) y.1.1.2 ∙ fine_more p s.start (sym (ap p y.1.1.1) ∙ d.0));
        kept_end = m.kept_end ∙ y.1.0;
        within = λ l. m.within (omega (arith, y.1.0, y.1.1));
      }

  ends :
      Carries g f p b → (n : ℕ) (o : Option ℕ) (s t u : Range ℕ) (a : ℕ) (r : Option ℕ) (j : F) → Passed f p b s t a j → s.start ≡ 0 → s.end ≡ n
      → nat_range_steps t o u
      → MatchOption o (r ≡ Some a) (λ x. (w : Option ℕ) × (h : F) × E × Called g j (a, (x, tt)) w h × (w ≡ None) × (r ≡ None))
      → is_some r ≡ all_below p n
  ends is n None s t u a r j m z e y k =
      let full : t.start ≡ n = omega (arith, m.kept_end, m.within (omega arith), y.1.0) in
      ap is_some k ∙ (sym (ap (all_below p) z) ∙ (sym m.fine ∙ ap (all_below p) full))
  ends is n (Some x) s t u a r j m z e y k =
      let at : a ≡ b x = m.carried ∙ sym (ap b y.1.1) in
      let called = subst (λ (q : F × ℕ). Called g q.0 (q.1, (x, tt)) k.0 k.1) {x = (j, a)} {y = (f, b x)} (λ i. (m.same i, at i)) k.3 in
      let d = is x k.0 k.1 called in
      ap is_some k.5 ∙ sym (not_fine p n x (omega (arith, m.kept_end, y.1)) (fails (p x) (b (suc x)) (sym k.4 ∙ d.0)))

  pub all_carried :
      (n : ℕ) (s u : Range ℕ) (r : Option ℕ) → Carries g f p b → s.start ≡ 0 → s.end ≡ n
      → TryFoldsItems nat_range_steps g (λ o r. o ≡ continue_value r) (λ (e : E) r. r ≡ None) s f (b 0) r u → is_some r ≡ all_below p n
  all_carried n s u r is z e d =
      ends is n d.1 s d.4.0 u d.3 r d.2 (turns is d.0 s d.4.0 (b 0) d.3 d.2 (ap b (sym z)) d.4.1 d.5) z e d.4.2 d.6
