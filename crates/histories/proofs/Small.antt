-- The tags of the small tree of levels 0, 1, 2, 2, 1, 2, as a rack with the tree number 7 takes them.
use Rattle.std.proofs.Common.{◌≡◌, ℕ, ◌<◌, ◌⊎◌, List, [], ◌∷◌, None, refl, subst, inl, inr, ⊎_elim, arith}
use Rattle.trees.specs.Tree.{Tree}
use Rattle.trees.specs.Above.{AtOrAbove, here, up}
use Rattle.trees.specs.Deepest.{Deepest}
use Rattle.trees.proofs.Above.{here_or_up, smaller, both}
use Rattle.codes.specs.Gilbert.{gilbert_moore}
use Rattle.codes.specs.Laws.{gilbert_lawful}
use Rattle.labels.specs.Small.{small_parent}
use Rattle.labels.proofs.Computed.{table}
use Rattle.histories.specs.Model.{start_fault, add_fault, joined}
use Rattle.histories.specs.Told.{History, taken, In}
use Rattle.histories.specs.Promises.{OfSheet, DeepestOf}
use Rattle.histories.specs.Wrong.{small_tag}
use Rattle.histories.proofs.Nodes.{starts_fine, adds_fine, joined_tag, tag_one}

pub is_tree : Tree small_parent 6
is_tree = table.is_tree

pub taken_at : (v : ℕ) → v < 6 → start_fault 7 (small_tag v) ≡ None
taken_at v k = starts_fine small_parent 6 gilbert_moore is_tree gilbert_lawful 7 (omega arith) (omega arith) 7 v k refl

pub added_at : (u v : ℕ) → u < 6 → v < 6 → add_fault 7 (small_tag u) (small_tag v) ≡ None
added_at u v k l = adds_fine small_parent 6 gilbert_moore is_tree gilbert_lawful 7 (omega arith) (omega arith) 7 u v k l refl

pub one : (u v : ℕ) → u < 6 → v < 6 → small_tag u ≡ small_tag v → u ≡ v
one u v k l e = tag_one small_parent 6 gilbert_moore is_tree gilbert_lawful 7 (omega arith) (omega arith) u v k l e

-- what is at or above 3, at or above 5, and at or above both
pub not_3_5 : AtOrAbove small_parent 3 5 → ⊥
not_3_5 a =
    ⊎_elim (λ e. omega arith) (λ b. ⊎_elim (λ e. omega arith) (λ c. let k = smaller is_tree c in omega arith) (here_or_up 0 refl b)) (here_or_up 4 refl a)

above_5 : (d : ℕ) → AtOrAbove small_parent d 5 → (d ≡ 5) ⊎ ((d ≡ 4) ⊎ AtOrAbove small_parent d 0)
above_5 d b = ⊎_elim (λ e. inl e) (λ c. inr (here_or_up 0 refl c)) (here_or_up 4 refl b)

root_35 : (d : ℕ) → AtOrAbove small_parent d 3 → AtOrAbove small_parent d 5 → d ≡ 0
root_35 d a b =
    let k = smaller is_tree a in
    ⊎_elim (λ e. absurd (omega arith)) (⊎_elim (λ e. absurd (omega arith)) (λ c. let l = smaller is_tree c in omega arith)) (above_5 d b)

root_15 : (d : ℕ) → AtOrAbove small_parent d 1 → AtOrAbove small_parent d 5 → d ≡ 0
root_15 d a b = root_35 d (up {p = 1} refl a) b

at_root : (d : ℕ) → d ≡ 0 → AtOrAbove small_parent d 0
at_root d e = rw e here

deepest_35 : Deepest small_parent (3 ∷ 5 ∷ []) 0
deepest_35 =
    record {
      above = (up {p = 1} refl (up {p = 0} refl here), (up {p = 4} refl (up {p = 0} refl here), tt));
      lowest = λ e h. at_root e (root_35 e h.0 h.1.0);
    }

deepest_15 : Deepest small_parent (1 ∷ 5 ∷ []) 0
deepest_15 =
    record {
      above = (up {p = 0} refl here, (up {p = 4} refl (up {p = 0} refl here), tt));
      lowest = λ e h. at_root e (root_15 e h.0 h.1.0);
    }

deepest_23 : Deepest small_parent (2 ∷ 3 ∷ []) 1
deepest_23 =
    record {
      above = (up {p = 1} refl here, (up {p = 1} refl here, tt));
      lowest = λ e h. ⊎_elim (λ q. ⊎_elim (λ r. absurd (omega arith)) (λ b. b) (here_or_up 1 refl h.1.0)) (λ a. a) (here_or_up 1 refl h.0);
    }

joins : (u v d : ℕ) → u < 6 → v < 6 → Deepest small_parent (u ∷ v ∷ []) d → joined (small_tag u) (small_tag v) ≡ small_tag d
joins u v d k l D = joined_tag small_parent 6 gilbert_moore is_tree gilbert_lawful 7 (omega arith) (omega arith) u v d k l D

pub joined_35 : joined (small_tag 3) (small_tag 5) ≡ small_tag 0
joined_35 = joins 3 5 0 (omega arith) (omega arith) deepest_35

pub joined_23 : joined (small_tag 2) (small_tag 3) ≡ small_tag 1
joined_23 = joins 2 3 1 (omega arith) (omega arith) deepest_23

pub joined_15 : joined (small_tag 1) (small_tag 5) ≡ small_tag 0
joined_15 = joins 1 5 0 (omega arith) (omega arith) deepest_15

abbrev pub Deep : List (List ℕ) → ℕ → Type 0
Deep ts d = DeepestOf small_parent 6 gilbert_moore 7 ts d

abbrev pub Sheet : History → Type 0
Sheet h = OfSheet small_parent 6 gilbert_moore 7 h

-- the deepest node for one tag is its node
pub only : (v d : ℕ) → v < 6 → Deep (small_tag v ∷ []) d → d ≡ v
only v d k D =
    both is_tree (D.above v k (inl refl))
    (D.deepest v (λ w l i. ⊎_elim (λ e. let s : w ≡ v = one w v l k e in rw s here) (λ z. absurd z) i))

-- histories that take tags of the tree
pub sheet_one : (u : ℕ) → u < 6 → (h : History) → taken h ≡ small_tag u ∷ [] → Sheet h
sheet_one u k h e = λ b i. ⊎_elim (λ q. (u, k, q)) (λ z. absurd z) (subst (λ (ts : List (List ℕ)). In b ts) e i)

pub sheet_two : (u v : ℕ) → u < 6 → v < 6 → (h : History) → taken h ≡ small_tag u ∷ small_tag v ∷ [] → Sheet h
sheet_two u v k l h e = λ b i. ⊎_elim (λ q. (u, k, q)) (⊎_elim (λ q. (v, l, q)) (λ z. absurd z)) (subst (λ (ts : List (List ℕ)). In b ts) e i)

pub sheet_three : (u v w : ℕ) → u < 6 → v < 6 → w < 6 → (h : History) → taken h ≡ small_tag u ∷ small_tag v ∷ small_tag w ∷ [] → Sheet h
sheet_three u v w k l m h e =
    λ b i. ⊎_elim (λ q. (u, k, q)) (⊎_elim (λ q. (v, l, q)) (⊎_elim (λ q. (w, m, q)) (λ z. absurd z))) (subst (λ (ts : List (List ℕ)). In b ts) e i)
