-- The test of a list and an index.
use Rattle.std.proofs.Common.{◌≡◌, ℕ, ◌+◌, ◌<◌, ◌≤◌, Bool, true, false, ltb, leb, List, [], ◌∷◌, length, sum, sym, refl, ◌∙◌, ap₂, arith, ltb-true, lt-ltb, le-leb, leb-true, ◌++◌, ◌&&◌}
use Rattle.std.proofs.lemmas.Grind.{common_steps}
use Rattle.std.specs.List.{AllByRecursion}
use Rattle.std.proofs.lemmas.Bool.{and_from, and_parts, cond-true}
use Rattle.codes.specs.Weighing.{most_weight, Weights, positive, fine_list, accepts, Exactly, next_index}

pub all_positive : (ws : List ℕ) → AllByRecursion (λ w. 1 ≤ w) ws → positive ws ≡ true
all_positive [] h = refl
all_positive (w ∷ ws) h = and_from (leb 1 w) (positive ws) (le-leb 1 w h.0) (all_positive ws h.1)

pub positive_all : (ws : List ℕ) → positive ws ≡ true → AllByRecursion (λ w. 1 ≤ w) ws
positive_all [] h = tt
positive_all (w ∷ ws) h = let p = and_parts (leb 1 w) (positive ws) h in (leb-true 1 w p.0, positive_all ws p.1)

pub positive_append : (xs ys : List ℕ) → positive (xs ++ ys) ≡ (positive xs && positive ys)
positive_append [] ys = refl
positive_append (x ∷ xs) ys = grind (arith, common_steps, positive_append xs ys)

pub fine_yes : (ws : List ℕ) → AllByRecursion (λ w. 1 ≤ w) ws → sum ws ≤ most_weight → fine_list ws ≡ true
fine_yes ws h k = and_from (positive ws) (leb (sum ws) most_weight) (all_positive ws h) (le-leb (sum ws) most_weight k)

pub fine_each : (ws : List ℕ) → fine_list ws ≡ true → AllByRecursion (λ w. 1 ≤ w) ws
fine_each ws h = positive_all ws (and_parts (positive ws) (leb (sum ws) most_weight) h).0

pub fine_bounded : (ws : List ℕ) → fine_list ws ≡ true → sum ws ≤ most_weight
fine_bounded ws h = leb-true (sum ws) most_weight (and_parts (positive ws) (leb (sum ws) most_weight) h).1

pub accepts_yes : (ws : List ℕ) (i : ℕ) → Weights ws → i < length ws → accepts ws i ≡ true
accepts_yes ws i h l = and_from (fine_list ws) (ltb i (length ws)) (fine_yes ws h.each h.bounded) (lt-ltb i (length ws) l)

pub accepts_index : (ws : List ℕ) (i : ℕ) → accepts ws i ≡ true → i < length ws
accepts_index ws i h = ltb-true i (length ws) (and_parts (fine_list ws) (ltb i (length ws)) h).1

pub accepts_fine : (ws : List ℕ) (i : ℕ) → accepts ws i ≡ true → fine_list ws ≡ true
accepts_fine ws i h = (and_parts (fine_list ws) (ltb i (length ws)) h).0

pub accepts_weights : (ws : List ℕ) (i : ℕ) → accepts ws i ≡ true → Weights ws
accepts_weights ws i h = record {
  some_weight = omega (arith, accepts_index ws i h);
  each = fine_each ws (accepts_fine ws i h);
  bounded = fine_bounded ws (accepts_fine ws i h);
}

-- the test is exact
pub accepts_exact : (ws : List ℕ) (i : ℕ) (t : Bool) → t ≡ accepts ws i → Exactly t (Weights ws × (i < length ws))
accepts_exact ws i t e = record {
  if_true = λ h. (accepts_weights ws i (sym e ∙ h), accepts_index ws i (sym e ∙ h));
  if_false = λ h p. let z : true ≡ false = sym (accepts_yes ws i p.0 p.1) ∙ sym e ∙ h in let y : ◌≡◌ {A = ℕ} 0 1 = cc in omega arith;
}

-- the index after one that is not past the end
pub next_more : (k : ℕ) {vs ws : List ℕ} {i j : ℕ} → k ≡ next_index vs i → vs ≡ ws → i ≡ j → j < length ws → k ≡ j + 1
next_more k {ws} {j} e p q l = e ∙ ap₂ next_index p q ∙ cond-true (ltb j (length ws)) _ _ (lt-ltb j (length ws) l)
