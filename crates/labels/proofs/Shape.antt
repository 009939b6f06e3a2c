-- Labels are labels that a tag can hold.
use Rattle.std.proofs.Common.{◌≡◌, ℕ, suc, ◌<◌, ◌≤◌, Bool, true, List, [], ◌∷◌, ◌++◌, length, Option, sym, subst, append_assoc, arith}
use Rattle.trees.specs.Tree.{Tree}
use Rattle.trees.specs.Above.{depth_of}
use Rattle.trees.proofs.Upward.{child, depth_some, depth_small}
use Rattle.codes.specs.declared.word.Word.{Word}
use Rattle.codes.specs.Words.{bits, Fit}
use Rattle.codes.specs.Coding.{Lawful}
use Rattle.formats.specs.Limits.{most_depth, most_number}
use Rattle.formats.specs.Label.{path, branch, Label, body_in, Fit as Fits, Chain, Fine, WellFormed}
use Rattle.formats.proofs.Chains.{chain_short}
use Rattle.formats.proofs.Trip.{trip}
use Rattle.labels.specs.Sizes.{is_light}
use Rattle.labels.specs.Labels.{path_word, branch_word, path_field, branch_field, label}
use Rattle.labels.specs.Sheet.{tag}
use Rattle.labels.specs.Bounds.{most_label_bits, ReadableTags, TagsReadable}
use Rattle.labels.proofs.Sizes.{light_test}
use Rattle.labels.proofs.Paths.{cases_in}
use Rattle.labels.proofs.Weighing.{path_fit, branch_fit}
use Rattle.labels.proofs.Labels.{pre, pre_none, pre_heavy, pre_light, label_is}
use Rattle.labels.proofs.Short.{few_fields, word_bits}

-- a branch field and a path field more
further :
    (l : Label) (low : ℕ) (w : List Bool) (d : ℕ) (b w' : List Bool) (d' : ℕ) → Chain low (l ++ (path w d ∷ [])) → Fits b → Fits w' → d < d' → d' ≤ most_depth
    → Chain low (l ++ (path w d ∷ branch b ∷ path w' d' ∷ []))
further [] low w d b w' d' c f g k m = (c.0, c.1, c.2, f, (g, k, m))
further (path x e ∷ []) low w d b w' d' c f g k m = absurd c
further (path x e ∷ branch y ∷ l) low w d b w' d' c f g k m = (c.0, c.1, c.2, c.3, further l (suc e) w d b w' d' c.4 f g k m)
further (path x e ∷ path y z ∷ l) low w d b w' d' c f g k m = absurd c
further (branch x ∷ l) low w d b w' d' c f g k m = absurd c

fits : (w : Word) → Fit w → Fits (bits w)
fits w f = let e = word_bits w in (omega (arith, f.some_bits), omega (arith, f.most_bits))

module _ {parent : ℕ → Option ℕ} {n : ℕ} (word : List ℕ → ℕ → Word) (T : Tree parent n) (L : Lawful word) where
  shallow : (v : ℕ) → v < n → depth_of parent v ≤ most_depth
  shallow v l = let z = depth_small T v in let y = T.few in omega arith

  -- the fields before v's last go on to a path field of v's depth or more
  abbrev Goes_on : ℕ → Type 0
  Goes_on v = v < n → (w : List Bool) (d : ℕ) → Fits w → depth_of parent v ≤ d → d ≤ most_depth → Chain 0 (pre parent n word v ++ (path w d ∷ []))

  light :
      (v p : ℕ) (w : List Bool) (d : ℕ) → is_light parent n p v ≡ true → Chain 0 (pre parent n word p ++ (path (bits (path_word parent n word p)) (depth_of parent p) ∷ []))
      → Fits w → depth_of parent p < d → d ≤ most_depth
      → Chain 0 (pre parent n word p ++ (path_field parent n word p ∷ branch_field parent n word p v ∷ path w d ∷ []))
  unfolding path_field branch_field
  light v p w d t c f l m =
      further (pre parent n word p) 0 (bits (path_word parent n word p)) (depth_of parent p) (bits (branch_word parent n word p v)) w d c
      (fits _ (branch_fit T L p v t)) f l m

  goes_on : (v : ℕ) → Goes_on v
  goes_on =
      cases_in T Goes_on
      (λ v e k w d f l m. subst (λ (x : Label). Chain 0 (x ++ (path w d ∷ []))) (sym (pre_none word T v e)) (f, omega arith, m))
      (λ v p e t ih k w d f l m.
      let s = depth_some T v p e in
      let q = (child T v p e).0 in
      subst (λ (x : Label). Chain 0 (x ++ (path w d ∷ []))) (sym (pre_heavy word T v p e t)) (ih (omega arith) w d f (omega arith) m))
      (λ v p e t ih k w d f l m.
      let s = depth_some T v p e in
      let q = (child T v p e).0 in
      let i : p < n = omega arith in
      subst (λ (x : Label). Chain 0 (x ++ (path w d ∷ []))) (sym (pre_light word T v p e t))
      (subst (λ (x : Label). Chain 0 x) (sym (append_assoc (pre parent n word p) _ _))
      (light v p w d (light_test T p v e t) (ih i (bits (path_word parent n word p)) (depth_of parent p) (fits _ (path_fit T L p i)) (omega arith) (shallow p i)) f (omega arith) m)))

  chain : (v : ℕ) → v < n → Chain 0 (label parent n word v)
  unfolding path_field
  chain v k =
      subst (λ (x : Label). Chain 0 x) (sym (label_is word T v))
      (goes_on v k (bits (path_word parent n word v)) (depth_of parent v) (fits _ (path_fit T L v k)) (omega arith) (shallow v k))

  pub few_bits : (v : ℕ) → v < n → length (body_in (label parent n word v)) ≤ most_label_bits
  few_bits v k = let a = chain_short 0 (label parent n word v) (chain v k) in let b = (few_fields word T).at_most v k in omega arith

  pub fine : (v : ℕ) → v < n → Fine (label parent n word v)
  fine v k =
      record {
        chain = chain v k;
        few = let b = (few_fields word T).at_most v k in omega arith;
        short = let a = few_bits v k in omega arith;
      }

  pub well : (number v : ℕ) → 1 ≤ number → number ≤ most_number → v < n → WellFormed number (label parent n word v)
  well number v a b k = record { some = a; small = b; label = fine v k }

  pub readable_tags : ReadableTags parent n word
  unfolding tag
  readable_tags =
      record {
        few_bits = few_bits;
        fine = fine;
        bytes = λ number v a b k. trip.bytes number (label parent n word v) (well number v a b k);
        reads = λ number v a b k. trip.back number (label parent n word v) (well number v a b k);
      }

pub tags_readable : TagsReadable
tags_readable parent n word T L = readable_tags word T L
