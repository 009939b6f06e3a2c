-- Chains of rising links.
use Rattle.std.proofs.Common.{◌≡◌, ℕ, zero, suc, ◌+◌, ◌-◌, ◌<◌, ◌≤◌, cond, eqb, List, [], ◌∷◌, ◌++◌, map, length, take, drop, set, None, Some, Option, sym, refl, ap, ◌∙◌, ⊎_elim, add-zero, arith, length-set, get_or-set_same}
use Rattle.std.specs.List.{AllByRecursion}
use Rattle.std.proofs.lemmas.Bool.{cases_eq, eq-eqb, ne_eqb}
use Rattle.std.proofs.lemmas.List.{append_assoc, take_more, take-set, length-drop, get_or-drop, drop-drop}
use Rattle.rows.specs.Chains.{at, Rising, link, run, chain, ahead}

-- the first of what is left of a list, and what is left after it
pub left_more : (xs : List ℕ) (k c : ℕ) (rest : List ℕ) → drop k xs ≡ c ∷ rest → (k < length xs) × (at xs k ≡ c) × (drop (k + 1) xs ≡ rest)
left_more xs k c rest e =
    let n = length-drop k xs in
    let m = ap length e in
    let t = get_or-drop k xs 0 0 in (
      omega arith,
      ap (at xs) (sym (add-zero k)) ∙ sym t ∙ ap (λ ys. at ys 0) e,
      sym (drop-drop 1 k xs) ∙ ap (drop 1) e,
    )

pub left_none : (xs : List ℕ) (k : ℕ) → drop k xs ≡ [] → length xs ≤ k
left_none xs k e = let n = length-drop k xs in let m = ap length e in omega arith

-- what a number in a row of links stands for
pub link_none : (x : ℕ) → None ≡ link x → x ≡ 0
link_none x e = ⊎_elim (λ z. z) (λ ne. let s = rw (ne_eqb x 0 ne) at e in absurd cc) (cases_eq x 0)

pub link_some : (x c : ℕ) → Some c ≡ link x → (c ≡ x) × (x ≡ 0 → ⊥)
link_some x c e =
    ⊎_elim (λ z. let s = rw (eq-eqb x 0 z) at e in absurd cc) (λ ne. let s : ◌≡◌ {A = Option ℕ} (Some c) (Some x) = rw (ne_eqb x 0 ne) at e in (cc, ne)) (cases_eq x 0)

module _ (next : List ℕ) (R : Rising next) where
  -- more steps change nothing
  fuel : (j k c : ℕ) → c < length next → length next ≤ c + suc j → length next ≤ c + suc k → run j next c ≡ run k next c
  unfolding run
  fuel zero zero c l h i = refl
  fuel zero (suc k) c l h i = ⊎_elim (λ z. rw (eq-eqb (at next c) 0 z) refl) (λ ne. let u = R c l ne in absurd (omega arith)) (cases_eq (at next c) 0)
  fuel (suc j) zero c l h i = ⊎_elim (λ z. rw (eq-eqb (at next c) 0 z) refl) (λ ne. let u = R c l ne in absurd (omega arith)) (cases_eq (at next c) 0)
  fuel (suc j) (suc k) c l h i =
      ⊎_elim (λ z. rw (eq-eqb (at next c) 0 z) refl)
      (λ ne. let u = R c l ne in ap (λ r. c ∷ cond (eqb (at next c) 0) [] r) (fuel j k (at next c) u.1 (omega arith) (omega arith)))
      (cases_eq (at next c) 0)

  one : (c : ℕ) → run (suc (length next)) next c ≡ c ∷ cond (eqb (at next c) 0) [] (chain next (at next c))
  unfolding run
  one c = refl

  pub chain_last : (c : ℕ) → c < length next → at next c ≡ 0 → chain next c ≡ c ∷ []
  chain_last c l z = fuel (length next) (suc (length next)) c l (omega arith) (omega arith) ∙ one c ∙ rw (eq-eqb (at next c) 0 z) refl

  pub chain_on : (c : ℕ) → c < length next → (at next c ≡ 0 → ⊥) → chain next c ≡ c ∷ chain next (at next c)
  chain_on c l ne = fuel (length next) (suc (length next)) c l (omega arith) (omega arith) ∙ one c ∙ rw (ne_eqb (at next c) 0 ne) refl

  -- a node, and those along its link
  pub chain_more : (c : ℕ) → c < length next → chain next c ≡ c ∷ ahead next (link (at next c))
  chain_more c l =
      ⊎_elim (λ z. chain_last c l z ∙ rw (eq-eqb (at next c) 0 z) refl)
      (λ ne. chain_on c l ne ∙ rw (ne_eqb (at next c) 0 ne) refl)
      (cases_eq (at next c) 0)

  run_in : (k c i : ℕ) → c < length next → i < length (run k next c) → (c + i ≤ at (run k next c) i) × (at (run k next c) i < length next)
  unfolding run
  run_in zero c zero l h = (omega arith, l)
  run_in zero c (suc i) l h = absurd (omega arith)
  run_in (suc k) c zero l h = (omega arith, l)
  run_in (suc k) c (suc i) l h =
      ⊎_elim
      (λ z. let h' = rw (eq-eqb (at next c) 0 z) at h in absurd (omega arith))
      (λ ne. let u = R c l ne in
      let h' = rw (ne_eqb (at next c) 0 ne) at h in
      let ih = run_in k (at next c) i u.1 (omega arith) in
      rw (ne_eqb (at next c) 0 ne) (omega (arith, ih.0), ih.1))
      (cases_eq (at next c) 0)

  run_rises : (k c i j : ℕ) → c < length next → i < j → j < length (run k next c) → at (run k next c) i < at (run k next c) j
  unfolding run
  run_rises zero c i j l o h = absurd (omega arith)
  run_rises (suc k) c i zero l o h = absurd (omega arith)
  run_rises (suc k) c zero (suc j) l o h =
      ⊎_elim
      (λ z. let h' = rw (eq-eqb (at next c) 0 z) at h in absurd (omega arith))
      (λ ne. let u = R c l ne in
      let h' = rw (ne_eqb (at next c) 0 ne) at h in
      let ih = run_in k (at next c) j u.1 (omega arith) in
      rw (ne_eqb (at next c) 0 ne) (omega (arith, ih.0)))
      (cases_eq (at next c) 0)
  run_rises (suc k) c (suc i) (suc j) l o h =
      ⊎_elim
      (λ z. let h' = rw (eq-eqb (at next c) 0 z) at h in absurd (omega arith))
      (λ ne. let u = R c l ne in
      let h' = rw (ne_eqb (at next c) 0 ne) at h in
      rw (ne_eqb (at next c) 0 ne) (run_rises k (at next c) i j u.1 (omega arith) (omega arith)))
      (cases_eq (at next c) 0)

  run_inside : (k c : ℕ) → c < length next → AllByRecursion (λ x. x < length next) (run k next c)
  unfolding run
  run_inside zero c l = (l, tt)
  run_inside (suc k) c l =
      ⊎_elim (λ z. rw (eq-eqb (at next c) 0 z) (l, tt)) (λ ne. let u = R c l ne in rw (ne_eqb (at next c) 0 ne) (l, run_inside k (at next c) u.1)) (cases_eq (at next c) 0)

  pub chain_inside : (c : ℕ) → c < length next → AllByRecursion (λ x. x < length next) (chain next c)
  chain_inside c l = run_inside (length next) c l

  -- what stands along a chain: nodes that rise, so no more of them than there are
  pub chain_in : (c i : ℕ) → c < length next → i < length (chain next c) → at (chain next c) i < length next
  chain_in c i l h = (run_in (length next) c i l h).1

  pub chain_rises : (c i j : ℕ) → c < length next → i < j → j < length (chain next c) → at (chain next c) i < at (chain next c) j
  chain_rises c i j l = run_rises (length next) c i j l

  pub chain_short : (c : ℕ) → c < length next → length (chain next c) ≤ length next
  chain_short c l =
      ⊎_elim (λ z. omega arith)
      (λ ne. let h = run_in (length next) c (length (chain next c) - 1) l (omega arith) in omega (arith, h.0, h.1))
      (cases_eq (length (chain next c)) 0)

  -- one node along a chain, where some stand before it and others are left
  pub record Turn (from k c : ℕ) (rest : List ℕ) : Type 0 where
    pub inside : c < length next
    pub within : k < length (chain next from)
    pub short : k < length next
    pub here : at (chain next from) k ≡ c
    pub later : drop (k + 1) (chain next from) ≡ rest
    pub behind : (j : ℕ) → j < k → at (chain next from) j < at (chain next from) k

  pub turn : (from k c : ℕ) (rest : List ℕ) → from < length next → drop k (chain next from) ≡ c ∷ rest → Turn from k c rest
  turn from k c rest l e =
      let m = left_more (chain next from) k c rest e in
      let i = chain_in from k l m.0 in
      let s = chain_short from l in
      record { inside = omega arith; within = m.0; short = omega arith; here = m.1; later = m.2; behind = λ j h. chain_rises from j k l h m.0 }

-- ---- weights along a chain

-- the weight of one node more, of those that are left, goes into the list
pub listed_more : (weight list left rest all : List ℕ) (k c : ℕ) → left ≡ c ∷ rest → k < length list → take k list ++ map (at weight) left ≡ all → take (k + 1) (set list k (at weight c)) ++ map (at weight) rest ≡ all
listed_more weight list left rest all k c e lt h =
    let l : k < length (set list k (at weight c)) = simp length-set (omega arith) in
    let put : take (k + 1) (set list k (at weight c)) ≡ take k list ++ (at weight c ∷ []) = take_more (set list k (at weight c)) k 0 l ∙ rw (get_or-set_same list k (at weight c) 0 lt, take-set) refl in
    rw put (append_assoc (take k list) (at weight c ∷ []) (map (at weight) rest) ∙ ap (λ xs. take k list ++ map (at weight) xs) (sym e) ∙ h)
