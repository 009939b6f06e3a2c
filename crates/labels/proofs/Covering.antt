-- The cover of two labels is the label of the deepest node at or above both, and their relation is that of the nodes.
use Rattle.std.proofs.Common.{◌≡◌, ℕ, ◌<◌, ◌≤◌, true, List, [], ◌∷◌, ◌++◌, Some, Option, sym, refl, ap, ◌∙◌, ⊎_elim, arith}
use lib.IntN.{sub_ℕ}
use Rattle.std.proofs.lemmas.Bool.{cases_order}
use Rattle.trees.specs.Tree.{Tree}
use Rattle.trees.specs.Above.{AtOrAbove, here, up, depth_of}
use Rattle.trees.specs.Deepest.{Deepest, meet_of}
use Rattle.trees.proofs.Upward.{child, depth_some}
use Rattle.trees.proofs.Above.{smaller}
use Rattle.trees.proofs.Meet.{two, one}
use Rattle.codes.specs.declared.word.Word.{Word}
use Rattle.codes.specs.Words.{bits, Before}
use Rattle.codes.specs.Coding.{Lawful}
use Rattle.formats.specs.declared.answers.Relation.{Relation}
use Rattle.formats.specs.declared.answers.Relation.TheVariants.{Same, FirstAbove, SecondAbove, Apart}
use Rattle.formats.specs.Label.{Field, path, Label}
use Rattle.formats.specs.Pairs.{cover, fields_of, last_depth, related}
use Rattle.formats.proofs.Covering.{end_last}
use Rattle.labels.specs.Sizes.{heavy, is_light}
use Rattle.labels.specs.Labels.{path_word, path_field, branch_field, label}
use Rattle.labels.specs.Covers.{Stands, are_same, first_is, second_is, neither, Covers, Relates, Everywhere}
use Rattle.labels.proofs.Sizes.{heavy_child, light_child}
use Rattle.labels.proofs.Weighing.{branch_before}
use Rattle.labels.proofs.Meeting.{Meets, both_ended, first_ended, second_ended, fork_ends, fork_ends', fork_on, fork_on', fork_branch, fork_branch', meets_more, meets_after}
use Rattle.labels.proofs.Labels.{pre, label_is, View, is_d, in_light, in_heavy, view}

module _ {parent : ℕ → Option ℕ} {n : ℕ} (word : List ℕ → ℕ → Word) (T : Tree parent n) (L : Lawful word) where
  -- what the labels of u and v say, where d is the deepest node at or above both
  pub record Found (u v d : ℕ) : Type 0 where
    pub told : Relation
    pub meets : Meets (label parent n word u) (label parent n word v) (label parent n word d) told
    pub stands : Stands parent u v told

  module _ (u v d : ℕ) (D : Deepest parent (u ∷ v ∷ []) d) where
    -- no child of d is at or above both
    no_child : (c : ℕ) → parent c ≡ Some d → AtOrAbove parent c u → AtOrAbove parent c v → ⊥
    no_child c e a b = let k = smaller T (D.lowest c (a, (b, tt))) in let l = (child T c d e).0 in omega arith

    -- ---- how the nodes stand

    under : (c x : ℕ) → parent c ≡ Some d → AtOrAbove parent c x → d < x
    under c x e a = let k = smaller T a in let l = (child T c d e).0 in omega arith

    under_light : (c x : ℕ) → is_light parent n d c ≡ true → AtOrAbove parent c x → d < x
    under_light c x i a = under c x (light_child T d c i) a

    under_heavy : (h x : ℕ) → heavy parent n d ≡ Some h → AtOrAbove parent h x → d < x
    under_heavy h x e a = under h x (heavy_child T d h e) a

    same : u ≡ d → v ≡ d → Stands parent u v Same
    same p q = are_same (p ∙ sym q)

    first : u ≡ d → d < v → Stands parent u v FirstAbove
    first p k = first_is (rw p D.above.1.0) (λ e. omega arith)

    second : d < u → v ≡ d → Stands parent u v SecondAbove
    second k p = second_is (rw p D.above.0) (λ e. omega arith)

    apart : d < u → d < v → Stands parent u v Apart
    apart k l =
        neither (λ a. let m = smaller T (D.lowest u (here, (a, tt))) in omega arith) (λ a. let m = smaller T (D.lowest v (a, (here, tt))) in omega arith)

    -- ---- how the labels go on after the fields before d's last

    branches :
        (c c' : ℕ) (l m : Label) → is_light parent n d c ≡ true → is_light parent n d c' ≡ true → AtOrAbove parent c u → AtOrAbove parent c' v
        → Meets (branch_field parent n word d c ∷ l) (branch_field parent n word d c' ∷ m) [] Apart
    unfolding branch_field
    branches c c' l m i i' a b =
        ⊎_elim (λ s. absurd (no_child c (light_child T d c i) a (rw s b)))
        (⊎_elim
        (λ k. fork_branch _ _ (branch_before T L d c c' i i' k) l m)
        (λ k. fork_branch' _ _ (branch_before T L d c' c i' i k) l m))
        (cases_order c c')

    abbrev Lower : ℕ → Type 0
    Lower x = Before (bits (path_word parent n word d)) (bits (path_word parent n word x))

    ends : (x : ℕ) (m : Label) → Lower x → depth_of parent d < depth_of parent x → Meets (path_field parent n word d ∷ []) (path_field parent n word x ∷ m) (path_field parent n word d ∷ []) FirstAbove
    unfolding path_field
    ends x m b k = fork_ends _ _ b _ _ m k

    ends' : (x : ℕ) (m : Label) → Lower x → depth_of parent d < depth_of parent x → Meets (path_field parent n word x ∷ m) (path_field parent n word d ∷ []) (path_field parent n word d ∷ []) SecondAbove
    unfolding path_field
    ends' x m b k = fork_ends' _ _ b _ _ m k

    goes_on : (x : ℕ) (f : Field) (l m : Label) → Lower x → depth_of parent d < depth_of parent x → Meets (path_field parent n word d ∷ f ∷ l) (path_field parent n word x ∷ m) (path_field parent n word d ∷ []) Apart
    unfolding path_field
    goes_on x f l m b k = fork_on _ _ b _ _ f l m k

    goes_on' : (x : ℕ) (f : Field) (l m : Label) → Lower x → depth_of parent d < depth_of parent x → Meets (path_field parent n word x ∷ m) (path_field parent n word d ∷ f ∷ l) (path_field parent n word d ∷ []) Apart
    unfolding path_field
    goes_on' x f l m b k = fork_on' _ _ b _ _ f l m k

    -- ---- nine cases

    found :
        {A B : Label} {r : Relation} → label parent n word u ≡ pre parent n word d ++ A → label parent n word v ≡ pre parent n word d ++ B
        → Meets A B (path_field parent n word d ∷ []) r → Stands parent u v r → Found u v d
    found {A} {B} {r} p q M s =
        let N : Meets (label parent n word u) (label parent n word v) (label parent n word d) r = rw (p, q, label_is word T d) (meets_after (pre parent n word d) M) in
        record { told = r; meets = N; stands = s }

    by_views : View parent n word d u → View parent n word d v → Found u v d
    by_views (is_d s p) (is_d s' q) = found p q (meets_more _ both_ended) (same s s')
    by_views (is_d s p) (in_light c r i a q) = found p q (meets_more _ (first_ended _ r)) (first s (under_light c v i a))
    by_views (is_d s p) (in_heavy h x r e a b k q) = found p q (ends x r b k) (first s (under_heavy h v e a))
    by_views (in_light c r i a p) (is_d s q) = found p q (meets_more _ (second_ended _ r)) (second (under_light c u i a) s)
    by_views (in_light c r i a p) (in_light c' r' i' a' q) = found p q (meets_more _ (branches c c' r r' i i' a a')) (apart (under_light c u i a) (under_light c' v i' a'))
    by_views (in_light c r i a p) (in_heavy h x r' e a' b k q) = found p q (goes_on x _ r r' b k) (apart (under_light c u i a) (under_heavy h v e a'))
    by_views (in_heavy h x r e a b k p) (is_d s q) = found p q (ends' x r b k) (second (under_heavy h u e a) s)
    by_views (in_heavy h x r e a b k p) (in_light c r' i a' q) = found p q (goes_on' x _ r' r b k) (apart (under_heavy h u e a) (under_light c v i a'))
    by_views (in_heavy h x r e a b k p) (in_heavy h' x' r' e' a' b' k' q) =
        let s : h ≡ h' = cc in
        absurd (no_child h (heavy_child T d h e) a (rw s a'))

    pub find : u < n → v < n → Found u v d
    find k l = by_views (view word T L d u k D.above.0) (view word T L d v l D.above.1.0)

  -- for any two nodes
  pub find_any : (u v : ℕ) → u < n → v < n → Found u v (meet_of parent u v)
  find_any u v k l = find u v (meet_of parent u v) (two T v l u k) k l

  pub covers : Covers parent n word
  covers =
      record {
        there_is = λ u v k l. (meet_of parent u v, two T v l u k);
        only = λ u v d e. one T (u ∷ v ∷ []) d e;
        no_clash = λ u v k l. (find_any u v k l).meets.calm;
        cover_is = λ u v d k l D. (find u v d D k l).meets.part;
      }

  -- ---- depths

  pub depth_end : (v : ℕ) → last_depth (label parent n word v) ≡ depth_of parent v
  unfolding path_field
  depth_end v = ap last_depth (label_is word T v) ∙ end_last (pre parent n word v) (path (bits (path_word parent n word v)) (depth_of parent v))

  pub depth_le : {a v : ℕ} → AtOrAbove parent a v → depth_of parent a ≤ depth_of parent v
  depth_le here = omega arith
  depth_le (up {v = v} {p = p} e h) = let i = depth_le h in let s = depth_some T v p e in omega arith

  relates : Relates parent n word
  unfolding related
  relates =
      record {
        relation = λ u v k l. let f = find_any u v k l in rw f.meets.way f.stands;
        deeper = λ u v k l. let a = depth_end u in let b = depth_end v in λ t. sub_ℕ (b t) (a t);
        steps = λ u v d k l D.
            let c : last_depth (fields_of (cover (label parent n word u) (label parent n word v)) (label parent n word u) (label parent n word v)) ≡ depth_of parent d =
            ap last_depth (find u v d D k l).meets.part ∙ depth_end d in
            let a = depth_end u in
            let b = depth_end v in
            let x = depth_le D.above.0 in
            let y = depth_le D.above.1.0 in
            omega arith;
      }

  -- ---- different nodes have different labels

  depth_one : {a v : ℕ} → AtOrAbove parent a v → depth_of parent a ≡ depth_of parent v → a ≡ v
  depth_one here s = refl
  depth_one (up {v = v} {p = p} e h) s = let i = depth_le h in let t = depth_some T v p e in absurd (omega arith)

  pub labels_apart : (u v : ℕ) → u < n → v < n → label parent n word u ≡ label parent n word v → u ≡ v
  labels_apart u v k l e =
      let d : ℕ = meet_of parent u v in
      let D : Deepest parent (u ∷ v ∷ []) (meet_of parent u v) = two T v l u k in
      let p = (find_any u v k l).meets.part in
      let same = sym (ap (λ x. fields_of (cover (label parent n word u) x) (label parent n word u) x) e) ∙ itself (label parent n word u) in
      let a : label parent n word (meet_of parent u v) ≡ label parent n word u = sym p ∙ same in
      let x = depth_one D.above.0 (sym (depth_end (meet_of parent u v)) ∙ ap last_depth a ∙ depth_end u) in
      let y = depth_one D.above.1.0 (sym (depth_end (meet_of parent u v)) ∙ ap last_depth (a ∙ e) ∙ depth_end v) in
      sym x ∙ y
    where
      alike : (x : Label) → Meets x x x Same
      alike [] = both_ended
      alike (f ∷ x) = meets_more f (alike x)

      itself : (x : Label) → fields_of (cover x x) x x ≡ x
      itself x = (alike x).part

pub all_covers : Everywhere Covers
all_covers parent n word T L = covers word T L

pub all_relates : Everywhere Relates
all_relates parent n word T L = relates word T L
