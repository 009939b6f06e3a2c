-- The turns of `link_light`.
use Rattle.std.proofs.Common.{◌≡◌, ℕ, zero, suc, ◌+◌, ◌-◌, ◌<◌, ◌≤◌, Bool, true, false, cond, eqb, ◌≢◌, ◌⊎◌, List, [], ◌∷◌, ◌++◌, length, set, Some, Option, sym, refl, ap, ◌∙◌, inl, inr, ⊎_elim, add-zero, arith, length-set, get_or-set_other, get_or-set_same}
use native.Mathlib.Nat.{sub_self}
use Rattle.std.proofs.lemmas.List.{append_assoc, append-nil}
use Rattle.std.proofs.lemmas.Bool.{cases_eq, cases_Bool, both_ways, eq-eqb, ne_eqb}
use Rattle.labels.specs.Sizes.{those, heavy, is_heavy, is_light, light_children}
use Rattle.trees.proofs.Upward.{child}
use Rattle.labels.proofs.Sizes.{light_child, light_not, light_test, heavy_test}
use Rattle.rows.specs.Chains.{at, Rising, run, chain}
use Rattle.rows.proofs.Runs.{chain_last, chain_on}
use Rattle.rows.specs.Rows.{parents_in, Rooted, HeavyRow, linked, LightLinks}
use Rattle.rows.proofs.Trees.{tree, parent_is, heavy_some_at}
use Rattle.rows.proofs.PathRows.{sure}

-- of the k numbers from low on those that pass the test, rising
pub from : ℕ → ℕ → (ℕ → Bool) → List ℕ
from low zero t = []
from low (suc k) t = cond (t low) (low ∷ from (low + 1) k t) (from (low + 1) k t)

those_from : (k low : ℕ) (t : ℕ → Bool) → those low t ++ from low k t ≡ those (low + k) t
unfolding from
those_from zero low t = append-nil (those low t) ∙ ap (λ (m : ℕ). those m t) (sym (add-zero low))
those_from (suc k) low t =
    let ih : those (low + 1) t ++ from (low + 1) k t ≡ those (low + 1 + k) t = those_from k (low + 1) t in
    let e : low + 1 + k ≡ low + suc k = omega arith in
    let s : low + 1 ≡ suc low = omega arith in
    ⊎_elim
    (λ y. rw y (sym (append_assoc (those low t) (low ∷ []) (from (low + 1) k t)) ∙ ap (λ (xs : List ℕ). xs ++ from (low + 1) k t) (sym (ap (λ (m : ℕ). those m t) s ∙ yes low t y)) ∙ ih ∙ ap (λ (m : ℕ). those m t) e))
    (λ y. rw y (ap (λ (xs : List ℕ). xs ++ from (low + 1) k t) (sym (ap (λ (m : ℕ). those m t) s ∙ no low t y)) ∙ ih ∙ ap (λ (m : ℕ). those m t) e))
    (cases_Bool (t low))
  where
    yes : (k : ℕ) (t : ℕ → Bool) → t k ≡ true → those (suc k) t ≡ those k t ++ (k ∷ [])
    yes k t y = unfold those in rw y refl

    no : (k : ℕ) (t : ℕ → Bool) → t k ≡ false → those (suc k) t ≡ those k t
    no k t y = unfold those in rw y refl

-- a link of an earlier node changes nothing
chain_set : (next : List ℕ) (R : Rising next) (v y : ℕ) (k c : ℕ) → v < c → c < length next → run k (set next v y) c ≡ run k next c
unfolding run
chain_set next R v y zero c h l = refl
chain_set next R v y (suc k) c h l =
    let ne : c ≢ v = λ e. omega arith in
    let s = get_or-set_other next v c y 0 ne in
    rw s
    (⊎_elim (λ z. rw (eq-eqb (at next c) 0 z) refl)
    (λ nz. let u = R c l nz in ap {B = List ℕ} (λ xs. c ∷ cond (eqb (at next c) 0) [] xs) (chain_set next R v y k (at next c) (omega arith) u.1))
    (cases_eq (at next c) 0))

pub record LinkFrom (ups first next : List ℕ) (j : ℕ) : Type 0 where
  pub rising : Rising next
  pub firsts : (p : ℕ) → p < length ups → (at first p ≡ 0) ⊎ ((j ≤ at first p) × (at first p < length ups))
  pub lists : (p : ℕ) → p < length ups → linked first next p ≡ from j (length ups - j) (is_light (parents_in ups) (length ups) p)

pub link_start : (ups first next : List ℕ) → ((p : ℕ) → p < length ups → at first p ≡ 0) → ((p : ℕ) → p < length next → at next p ≡ 0) → LinkFrom ups first next (length ups)
unfolding from
link_start ups first next a b =
    record {
      rising = λ c l ne. absurd (ne (b c l));
      firsts = λ p l. inl (a p l);
      lists = λ p l. rw (sub_self (length ups), eq-eqb (at first p) 0 (a p l)) refl;
    }

pub link_end : (ups first next : List ℕ) → Rooted ups → (j : ℕ) → j ≡ 1 → LinkFrom ups first next j → LightLinks ups first next
unfolding those light_children
link_end ups first next r j e L p l =
    let t : ℕ → Bool = is_light (parents_in ups) (length ups) p in
    let n : 1 + (length ups - 1) ≡ length ups = omega arith in
    let z : is_light (parents_in ups) (length ups) p 0 ≡ false =
    ⊎_elim (λ y. let x = child (tree ups r) 0 p (light_child (tree ups r) p 0 y) in absurd (omega arith)) (λ y. y) (cases_Bool (is_light (parents_in ups) (length ups) p 0)) in
    let q : those 1 (is_light (parents_in ups) (length ups) p) ≡ [] = rw z refl in
    let w = those_from (length ups - 1) 1 (is_light (parents_in ups) (length ups) p) in
    L.lists p l ∙ ap (λ (m : ℕ). from m (length ups - m) (is_light (parents_in ups) (length ups) p)) e ∙ ap (λ (xs : List ℕ). xs ++ from 1 (length ups - 1) (is_light (parents_in ups) (length ups) p)) (sym q) ∙ w ∙ ap (λ (m : ℕ). those m (is_light (parents_in ups) (length ups) p)) n

module _ (ups row first next : List ℕ) (r : Rooted ups) (H : HeavyRow ups row) (even : length row ≡ length ups) (v j : ℕ) (ej : j ≡ v + 1) (pos : 1 ≤ v) (lv : v < length ups) (L : LinkFrom ups first next j) where
  abbrev N : ℕ
  N = length ups

  abbrev P : ℕ → Option ℕ
  P = parents_in ups

  abbrev p₀ : ℕ
  p₀ = at ups v

  other : (p : ℕ) → (p₀ ≡ p → ⊥) → is_light P N p v ≡ false
  other p ne =
      ⊎_elim (λ y. let a = light_child (tree ups r) p v y in let b = parent_is ups v pos lv in let s : p₀ ≡ p = cc in absurd (ne s)) (λ y. y) (cases_Bool (is_light P N p v))

  one_no : (p : ℕ) → is_light P N p v ≡ false → from v (N - v) (is_light P N p) ≡ from j (N - j) (is_light P N p)
  unfolding from
  one_no p y = let m : N - v ≡ suc (N - (v + 1)) = omega arith in rw (m, y, ej) refl

  one_yes : (p : ℕ) → is_light P N p v ≡ true → from v (N - v) (is_light P N p) ≡ v ∷ from j (N - j) (is_light P N p)
  unfolding from
  one_yes p y = let m : N - v ≡ suc (N - (v + 1)) = omega arith in rw (m, y, ej) refl

  heavy_not : at row p₀ ≡ v → is_light P N p₀ v ≡ false
  heavy_not e =
      let b = r.below v pos lv in
      let ne : at row p₀ ≡ 0 → ⊥ = λ z. omega arith in
      let x : heavy P N p₀ ≡ Some v = heavy_some_at ups row r H even p₀ (omega arith) ne ∙ ap {B = Option ℕ} Some e in
      let h = heavy_test (tree ups r) p₀ v x in
      ⊎_elim (λ y. absurd (both_ways (is_heavy P N p₀ v) (light_not (tree ups r) p₀ v y) h)) (λ y. y) (cases_Bool (is_light P N p₀ v))

  pub link_skip : at row p₀ ≡ v → LinkFrom ups first next v
  link_skip e =
      record {
        rising = L.rising;
        firsts = λ p l. ⊎_elim (λ z. inl z) (λ h. inr (omega (arith, h.0), h.1)) (L.firsts p l);
        lists = λ p l. L.lists p l ∙ sym (one_no p (⊎_elim (λ s. rw (← s) (heavy_not e)) (λ ne. other p ne) (cases_eq p₀ p)));
      }

  module _ (ne : at row p₀ ≡ v → ⊥) (ef : length first ≡ length ups) (en : length next ≡ length ups) where
    light_yes : is_light P N p₀ v ≡ true
    light_yes =
        ⊎_elim (λ y. absurd (ne (sure ups row r H even v pos lv y))) (λ y. light_test (tree ups r) p₀ v (parent_is ups v pos lv) y) (cases_Bool (is_heavy P N p₀ v))

    abbrev first' : List ℕ
    first' = set first p₀ v

    abbrev next' : List ℕ
    next' = set next v (at first p₀)

    rising' : Rising next'
    rising' c l ne =
        let ln = length-set next v (at first p₀) in
        let bp = r.below v pos lv in
        ⊎_elim
        (λ (s : c ≡ v). let q : at next' c ≡ at first p₀ = rw s (get_or-set_same next v (at first p₀) 0 (omega arith)) in
        ⊎_elim (λ z. absurd (ne (q ∙ z))) (λ h. (omega (arith, h.0), omega (arith, h.1))) (L.firsts p₀ (omega arith)))
        (λ (d : c ≡ v → ⊥). let q = get_or-set_other next v c (at first p₀) 0 d in
        let h = L.rising c (omega arith) (λ z. ne (q ∙ z)) in (omega (arith, h.0), omega (arith, h.1)))
        (cases_eq c v)

    same : (c : ℕ) → j ≤ c → c < length ups → chain next' c ≡ chain next c
    same c a b = ap (λ (k : ℕ). run k next' c) (length-set next v (at first p₀)) ∙ chain_set next L.rising v (at first p₀) (length next) c (omega arith) (omega arith)

    keep : (p : ℕ) → p < length ups → (x : ℕ) → x ≡ at first p → cond (eqb x 0) [] (chain next' x) ≡ linked first next p
    keep p l x e =
        ⊎_elim (λ z. let z' : x ≡ 0 = e ∙ z in rw (eq-eqb x 0 z', eq-eqb (at first p) 0 z) refl)
        (λ h. let d : x ≡ 0 → ⊥ = λ z. omega (arith, h.0) in
        let d' : at first p ≡ 0 → ⊥ = λ z. omega (arith, h.0) in
        rw (ne_eqb x 0 d, ne_eqb (at first p) 0 d') (ap (chain next') e ∙ same (at first p) h.0 h.1))
        (L.firsts p l)

    mine : linked first' next' p₀ ≡ v ∷ linked first next p₀
    mine =
        let bp = r.below v pos lv in
        let ln = length-set next v (at first p₀) in
        let fv : at first' p₀ ≡ v = get_or-set_same first p₀ v 0 (omega arith) in
        let nz : v ≡ 0 → ⊥ = λ z. omega arith in
        let q : at next' v ≡ at first p₀ = get_or-set_same next v (at first p₀) 0 (omega arith) in
        let lv' : v < length next' = omega arith in
        let kept = keep p₀ (omega arith) (at next' v) q in
        rw (fv, ne_eqb v 0 nz)
        (⊎_elim
        (λ (z : at next' v ≡ 0). chain_last next' rising' v lv' z ∙ ap {B = List ℕ} (λ xs. v ∷ xs) (rw (eq-eqb (at next' v) 0 z) at kept))
        (λ (d : at next' v ≡ 0 → ⊥). chain_on next' rising' v lv' d ∙ ap {B = List ℕ} (λ xs. v ∷ xs) (rw (ne_eqb (at next' v) 0 d) at kept))
        (cases_eq (at next' v) 0))

    pub link_turn : LinkFrom ups first' next' v
    link_turn =
        let bp = r.below v pos lv in
        record {
          rising = rising';
          firsts = λ p l.
              ⊎_elim
              (λ (s : p ≡ p₀). let q : at first' p ≡ v = rw s (get_or-set_same first p₀ v 0 (omega arith)) in inr (omega arith, omega arith))
              (λ (d : p ≡ p₀ → ⊥). let q = get_or-set_other first p₀ p v 0 d in ⊎_elim (λ z. inl (q ∙ z)) (λ h. inr (omega (arith, h.0), omega (arith, h.1))) (L.firsts p l))
              (cases_eq p p₀);
          lists = λ p l.
              ⊎_elim
              (λ (s : p ≡ p₀). rw s (mine ∙ ap {B = List ℕ} (λ xs. v ∷ xs) (L.lists p₀ (omega arith)) ∙ sym (one_yes p₀ light_yes)))
              (λ (d : p ≡ p₀ → ⊥). let q = get_or-set_other first p₀ p v 0 d in keep p l (at first' p) q ∙ L.lists p l ∙ sym (one_no p (other p (λ e. d (sym e)))))
              (cases_eq p p₀);
        }
