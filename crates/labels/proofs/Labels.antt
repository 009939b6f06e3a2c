-- The fields of labels, and how the label of a node stands to that of a node above it.
use Rattle.std.proofs.Common.{◌≡◌, ℕ, zero, suc, ◌+◌, ◌<◌, ◌≤◌, true, false, cond, List, [], ◌∷◌, ◌++◌, Some, None, Option, sym, refl, ◌∙◌, ⊎_elim, append_assoc, arith}
use Rattle.std.proofs.lemmas.Bool.{cases_Bool}
use Rattle.trees.specs.Tree.{Tree}
use Rattle.trees.specs.Above.{AtOrAbove, here, up, opt, rise, depth_of}
use Rattle.trees.proofs.Upward.{child, rise_none, rise_some}
use Rattle.codes.specs.declared.word.Word.{Word}
use Rattle.codes.specs.Words.{bits, Before}
use Rattle.codes.specs.Coding.{Lawful}
use Rattle.formats.specs.Label.{Label}
use Rattle.labels.specs.Sizes.{heavy, is_heavy, is_light}
use Rattle.labels.specs.Paths.{top, place}
use Rattle.labels.specs.Labels.{path_word, path_field, branch_field, label_in, label}
use Rattle.labels.specs.Meanings.{LabelsMean, DefinitionsMean}
use Rattle.labels.proofs.Sizes.{heavy_is, light_test, sizes_mean, heavy_means}
use Rattle.labels.proofs.Paths.{top_none, top_heavy, top_light, cases_in, top_le, depth_place, paths_mean}
use Rattle.labels.proofs.Weighing.{path_before}

module _ (parent : ℕ → Option ℕ) (n : ℕ) (word : List ℕ → ℕ → Word) where
  -- the fields of v's label before its last
  pub pre : ℕ → Label
  pre v =
      rise parent (λ r. []) (λ w p l. cond (is_heavy parent n p w) l (l ++ (path_field parent n word p ∷ branch_field parent n word p w ∷ []))) v

  -- How u lies below a node d. It is d; or lower on d's path; or at or below a light child c of d; or at or below a light child of a
  -- node x that is lower on d's path. In the second case and in the last it is at or below d's heavy child h.
  data Lies (d u : ℕ) : Type 0 where
    self : u ≡ d → Lies d u
    lower :
        (h : ℕ) → heavy parent n d ≡ Some h → AtOrAbove parent h u → top parent n u ≡ top parent n d → place parent n d < place parent n u
        → pre u ≡ pre d
        → Lies d u
    off :
        (c : ℕ) (rest : Label) → is_light parent n d c ≡ true → AtOrAbove parent c u
        → pre u ≡ pre d ++ (path_field parent n word d ∷ branch_field parent n word d c ∷ rest)
        → Lies d u
    lower_off :
        (h x : ℕ) (rest : Label) → heavy parent n d ≡ Some h → AtOrAbove parent h u → x < n → top parent n x ≡ top parent n d → place parent n d < place parent n x
        → pre u ≡ pre d ++ (path_field parent n word x ∷ rest)
        → Lies d u

  -- The same by labels: u is d; or it is at or below a light child c of d; or at or below d's heavy child h, and after the common
  -- fields its label has the word of a node x that is lower on d's path.
  pub data View (d u : ℕ) : Type 0 where
    is_d : u ≡ d → label parent n word u ≡ pre d ++ (path_field parent n word d ∷ []) → View d u
    in_light :
        (c : ℕ) (rest : Label) → is_light parent n d c ≡ true → AtOrAbove parent c u
        → label parent n word u ≡ pre d ++ (path_field parent n word d ∷ branch_field parent n word d c ∷ rest)
        → View d u
    in_heavy :
        (h x : ℕ) (rest : Label) → heavy parent n d ≡ Some h → AtOrAbove parent h u
        → Before (bits (path_word parent n word d)) (bits (path_word parent n word x)) → depth_of parent d < depth_of parent x
        → label parent n word u ≡ pre d ++ (path_field parent n word x ∷ rest)
        → View d u

module _ {parent : ℕ → Option ℕ} {n : ℕ} (word : List ℕ → ℕ → Word) (T : Tree parent n) where
  pub pre_none : (v : ℕ) → parent v ≡ None → pre parent n word v ≡ []
  unfolding pre
  pre_none v e = rise_none T _ _ v e

  pre_some :
      (v p : ℕ) → parent v ≡ Some p
      → pre parent n word v ≡ cond (is_heavy parent n p v) (pre parent n word p) (pre parent n word p ++ (path_field parent n word p ∷ branch_field parent n word p v ∷ []))
  unfolding pre
  pre_some v p e =
      rise_some T _ (λ w p l. cond (is_heavy parent n p w) l (l ++ (path_field parent n word p ∷ branch_field parent n word p w ∷ []))) v p e

  pub pre_heavy : (v p : ℕ) → parent v ≡ Some p → is_heavy parent n p v ≡ true → pre parent n word v ≡ pre parent n word p
  pre_heavy v p e t = pre_some v p e ∙ rw t refl

  pub pre_light :
      (v p : ℕ) → parent v ≡ Some p → is_heavy parent n p v ≡ false
      → pre parent n word v ≡ pre parent n word p ++ (path_field parent n word p ∷ branch_field parent n word p v ∷ [])
  pre_light v p e t = pre_some v p e ∙ rw t refl

  abbrev before_top : ℕ → Option ℕ → Label
  before_top t o = opt [] (λ p. pre parent n word p ++ (path_field parent n word p ∷ branch_field parent n word p t ∷ [])) o

  pre_top : (v : ℕ) → pre parent n word v ≡ before_top (top parent n v) (parent (top parent n v))
  pre_top =
      cases_in T (λ v. pre parent n word v ≡ before_top (top parent n v) (parent (top parent n v)))
      (λ v e. rw ((top_none T v e).0, e) (pre_none v e))
      (λ v p e t ih. rw (top_heavy T v p e t).0 (pre_heavy v p e t ∙ ih))
      (λ v p e t ih. rw ((top_light T v p e t).0, e) (pre_light v p e t))

  label_steps : (k v : ℕ) → v ≤ k → label_in parent n word k v ≡ pre parent n word v ++ (path_field parent n word v ∷ [])
  unfolding label_in
  label_steps zero v h = let e : v ≡ 0 = omega arith in let f : pre parent n word v ≡ [] = pre_none v (rw e T.root) in rw f refl
  label_steps (suc k) v h = rw (pre_top v) (go (λ p l. label_steps k p (omega arith)) (parent (top parent n v)) refl)
    where
      go :
          ((p : ℕ) → p < v → label_in parent n word k p ≡ pre parent n word p ++ (path_field parent n word p ∷ []))
          → (o : Option ℕ) → parent (top parent n v) ≡ o
          → opt (path_field parent n word v ∷ []) (λ p. label_in parent n word k p ++ (branch_field parent n word p (top parent n v) ∷ path_field parent n word v ∷ [])) o
          ≡ before_top (top parent n v) o ++ (path_field parent n word v ∷ [])
      go ih None e = refl
      go ih (Some p) e =
          let l = (child T (top parent n v) p e).0 in
          let m = top_le T v in
          rw (ih p (omega arith)) (simp append_assoc)

  pub label_is : (v : ℕ) → label parent n word v ≡ pre parent n word v ++ (path_field parent n word v ∷ [])
  unfolding label
  label_is v = label_steps v v (omega arith)

  -- ---- below a node

  lies_heavy : (d u p : ℕ) → parent u ≡ Some p → is_heavy parent n p u ≡ true → Lies parent n word d p → Lies parent n word d u
  lies_heavy d u p e t (self s) =
      let a = top_heavy T u p e t in
      let z : Lies parent n word p u = lower u (heavy_is T p u t) here a.0 (omega arith) (pre_heavy u p e t) in
      rw s at z
  lies_heavy d u p e t (lower h g a r l q) =
      let b = top_heavy T u p e t in
      lower h g (up e a) (b.0 ∙ r) (omega arith) (pre_heavy u p e t ∙ q)
  lies_heavy d u p e t (off c rest i a q) = off c rest i (up e a) (pre_heavy u p e t ∙ q)
  lies_heavy d u p e t (lower_off h x rest g a i r l q) = lower_off h x rest g (up e a) i r l (pre_heavy u p e t ∙ q)

  lies_light : (d u p : ℕ) → parent u ≡ Some p → is_heavy parent n p u ≡ false → Lies parent n word d p → Lies parent n word d u
  lies_light d u p e t (self s) =
      let z : Lies parent n word p u = off u [] (light_test T p u e t) here (pre_light u p e t) in
      rw s at z
  lies_light d u p e t (lower h g a r l q) =
      let b = child T u p e in
      lower_off h p (branch_field parent n word p u ∷ []) g (up e a) (omega arith) r l (pre_light u p e t ∙ rw q refl)
  lies_light d u p e t (off c rest i a q) =
      off c (rest ++ (path_field parent n word p ∷ branch_field parent n word p u ∷ [])) i (up e a) (pre_light u p e t ∙ rw q (append_assoc (pre parent n word d) _ _))
  lies_light d u p e t (lower_off h x rest g a i r l q) =
      lower_off h x (rest ++ (path_field parent n word p ∷ branch_field parent n word p u ∷ [])) g (up e a) i r l
      (pre_light u p e t ∙ rw q (append_assoc (pre parent n word d) _ _))

  lies : {d u : ℕ} → AtOrAbove parent d u → Lies parent n word d u
  lies here = self refl
  lies {d} (up {v = u} {p = p} e h) =
      let i = lies h in
      ⊎_elim (λ t. lies_heavy d u p e t i) (λ t. lies_light d u p e t i) (cases_Bool (is_heavy parent n p u))

  lower_depth : (d x : ℕ) → top parent n x ≡ top parent n d → place parent n d < place parent n x → depth_of parent d < depth_of parent x
  lower_depth d x t l =
      let a = depth_place T d in
      let b : depth_of parent x ≡ depth_of parent (top parent n d) + place parent n x = rw t at (depth_place T x) in
      omega arith

  pub view : Lawful word → (d u : ℕ) → u < n → AtOrAbove parent d u → View parent n word d u
  view L d u l a = go (lies a)
    where
      go : Lies parent n word d u → View parent n word d u
      go (self s) = is_d s (rw s (label_is d))
      go (lower h e b t k q) = in_heavy h u [] e b (path_before T L d u l (sym t) k) (lower_depth d u t k) (label_is u ∙ rw q refl)
      go (off c rest i b q) = in_light c (rest ++ (path_field parent n word u ∷ [])) i b (label_is u ∙ rw q (append_assoc (pre parent n word d) _ _))
      go (lower_off h x rest e b i t k q) =
          in_heavy h x (rest ++ (path_field parent n word u ∷ [])) e b (path_before T L d x i (sym t) k) (lower_depth d x t k)
          (label_is u ∙ rw q (append_assoc (pre parent n word d) _ _))

  -- ---- what the definition says

  labels_mean : LabelsMean parent n word
  labels_mean =
      record {
        on_root_path = λ v l e. rw (label_is v, pre_top v, e, T.root) refl;
        below = λ v p e. rw (label_is v, label_is p, pre_top v, e) (simp append_assoc);
      }

pub definitions_mean : DefinitionsMean
definitions_mean parent n word T =
    record {
      sizes = sizes_mean T;
      heavy_children = heavy_means T;
      paths = paths_mean T;
      labels = labels_mean word T;
    }
