-- A row that holds the parents of a tree is that tree.
use Rattle.std.proofs.Common.{◌≡◌, ℕ, ◌+◌, ◌<◌, ◌≤◌, ◌≢◌, List, length, get_or, set, Some, Option, sym, ap, ◌∙◌, subst, ⊎_elim, arith, get_or-set_other, get_or-set_same}
use mathlib.Core.Path.{fun_ext}
use Rattle.std.proofs.lemmas.Bool.{cases_eq, cases_lt}
use Rattle.trees.specs.Tree.{Tree}
use Rattle.trees.proofs.Upward.{child}
use Rattle.rows.specs.Chains.{at}
use Rattle.rows.specs.Rows.{parents_in, Rooted}
use Rattle.rows.proofs.Trees.{tree, parent_is}

-- one parent more
pub more_stored : (p : ℕ → Option ℕ) (xs : List ℕ) (v u : ℕ) → p v ≡ Some u → v < length xs
    → ((k : ℕ) → 1 ≤ k → k < v → p k ≡ Some (get_or xs k 0)) → (k : ℕ) → 1 ≤ k → k < v + 1 → p k ≡ Some (get_or (set xs v u) k 0)
more_stored p xs v u e within old k a b =
    ⊎_elim
    (λ (lt : k < v). let ne : k ≢ v = λ d. omega arith in old k a lt ∙ ap {B = Option ℕ} Some (sym (get_or-set_other xs v k u 0 ne)))
    (λ (ge : v ≤ k). let here : v ≡ k = omega arith in subst (λ (j : ℕ). p j ≡ Some (get_or (set xs v u) j 0)) here (e ∙ ap {B = Option ℕ} Some (sym (get_or-set_same xs v u 0 within))))
    (cases_lt k v)

module _ (up : List ℕ) (n : ℕ) (parent : ℕ → Option ℕ) (T : Tree parent n) (many : length up ≡ n) (H : (v : ℕ) → 1 ≤ v → v < n → parent v ≡ Some (at up v)) where
  pub rooted : Rooted up
  rooted = record {
    any = omega (arith, T.some_node);
    few = omega (arith, T.few);
    below = λ v a b. (child T v (at up v) (H v a (omega arith))).0;
  }

  pointwise : (v : ℕ) → parents_in up v ≡ parent v
  pointwise v =
      ⊎_elim
      (λ (z : v ≡ 0). ap (parents_in up) z ∙ (tree up rooted).root ∙ sym T.root ∙ ap parent (sym z))
      (λ (nz : v ≡ 0 → ⊥).
      ⊎_elim
      (λ (l : v < n). parent_is up v (omega arith) (omega arith) ∙ sym (H v (omega arith) l))
      (λ (l : n ≤ v). (tree up rooted).outer v (omega arith) ∙ sym (T.outer v l))
      (cases_lt v n))
      (cases_eq v 0)

  pub same : parents_in up ≡ parent
  same = fun_ext pointwise
