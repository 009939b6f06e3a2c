-- The lists handed to the code, and the words that it gives.
use Rattle.std.proofs.Common.{◌≡◌, ℕ, ◌+◌, ◌*◌, ◌^◌, ◌<◌, ◌≤◌, true, List, length, get_or, Ok, sum, Option, sym, ap, ◌∙◌, subst, arith}
use Rattle.std.specs.List.{AllByRecursion}
use Rattle.std.proofs.ByRecursion.{All-map, All-weaker}
use Rattle.std.proofs.lemmas.List.{length-map, get_or-map}
use Rattle.std.proofs.lemmas.List.Sums.{sum-map}
use Rattle.std.proofs.lemmas.Bool.{cond-true}
use Rattle.trees.specs.Tree.{Tree}
use Rattle.trees.proofs.Upward.{child}
use Rattle.codes.specs.declared.word.Word.{Word}
use Rattle.codes.specs.Words.{bits, Fit, Before}
use Rattle.codes.specs.Weighing.{Weights, accepts}
use Rattle.codes.specs.Coding.{answer, Lawful, Balanced}
use Rattle.codes.proofs.Accepting.{accepts_yes}
use Rattle.labels.specs.Sizes.{those, size, is_light, light_children, light_size}
use Rattle.labels.specs.Paths.{top, place, heavy_path}
use Rattle.labels.specs.Labels.{path_weights, branch_weights, turn, path_word, branch_word}
use Rattle.labels.specs.Lists.{Accepted, ListsAccepted}
use Rattle.labels.proofs.Sizes.{size_few, size_some, light_child, light_some, light_sum, light_rest}
use Rattle.labels.proofs.Those.{those_sum, those_all, those_less, those_at}
use Rattle.labels.proofs.Paths.{onward, path_sum, path_all, placed, place_less, top_le}

module _ {parent : ℕ → Option ℕ} {n : ℕ} (T : Tree parent n) where
  path_total : (t : ℕ) → t < n → sum (path_weights parent n t) ≡ size parent n t
  unfolding path_weights
  path_total t l = sum-map (light_size parent n) (heavy_path parent n t) ∙ path_sum T t l

  path_long : (t : ℕ) → length (path_weights parent n t) ≡ length (heavy_path parent n t)
  unfolding path_weights
  path_long t = length-map (heavy_path parent n t) (light_size parent n)

  path_fine : (t : ℕ) → t < n → Weights (path_weights parent n t)
  path_fine t l =
      record {
        some_weight = let a = path_long t in let b = ap length (onward T t) in omega arith;
        each = each;
        bounded = let a = path_total t l in let b = size_few T t in let c = T.few in omega arith;
      }
    where
      each : AllByRecursion (λ w. 1 ≤ w) (path_weights parent n t)
      each =
          unfold path_weights in All-map (λ w. 1 ≤ w) (light_size parent n) (heavy_path parent n t)
          (All-weaker (λ v. v < n) (λ v. 1 ≤ light_size parent n v) (λ v m. light_some T v m) (heavy_path parent n t) (path_all T t l))

  path_inside : (v : ℕ) → place parent n v < length (path_weights parent n (top parent n v))
  path_inside v = let a = path_long (top parent n v) in let b = place_less T v in omega arith

  path_weight : (v : ℕ) → get_or (path_weights parent n (top parent n v)) (place parent n v) 0 ≡ light_size parent n v
  unfolding path_weights
  path_weight v =
      get_or-map (light_size parent n) (heavy_path parent n (top parent n v)) (place parent n v) 0 0 (place_less T v)
      ∙ ap (light_size parent n) (placed T v 0)

  branch_total : (p : ℕ) → p < n → sum (branch_weights parent n p) + 1 ≡ light_size parent n p
  unfolding branch_weights light_children
  branch_total p l =
      let a = sum-map (size parent n) (those n (is_light parent n p)) in
      let b = those_sum n (is_light parent n p) (size parent n) in
      let c = light_sum T p l in
      omega arith

  branch_inside : (p c : ℕ) → is_light parent n p c ≡ true → turn parent n p c < length (branch_weights parent n p)
  unfolding branch_weights light_children turn
  branch_inside p c t =
      let a = those_less n c (is_light parent n p) t (child T c p (light_child T p c t)).1 in
      let b = length-map (those n (is_light parent n p)) (size parent n) in
      omega arith

  branch_weight : (p c : ℕ) → is_light parent n p c ≡ true → get_or (branch_weights parent n p) (turn parent n p c) 0 ≡ size parent n c
  unfolding branch_weights light_children turn
  branch_weight p c t =
      let l = (child T c p (light_child T p c t)).1 in
      get_or-map (size parent n) (those n (is_light parent n p)) (length (those c (is_light parent n p))) 0 0 (those_less n c (is_light parent n p) t l)
      ∙ ap (size parent n) (those_at n c 0 (is_light parent n p) t l)

  branch_fine : (p c : ℕ) → is_light parent n p c ≡ true → Weights (branch_weights parent n p)
  branch_fine p c t =
      record {
        some_weight = let a = branch_inside p c t in omega arith;
        each = each;
        bounded =
            let l = child T c p (light_child T p c t) in
            let a = branch_total p (omega arith) in
            let b = light_rest T p (omega arith) in
            let d = size_few T p in
            let e = T.few in
            omega arith;
      }
    where
      each : AllByRecursion (λ w. 1 ≤ w) (branch_weights parent n p)
      each =
          unfold branch_weights light_children in All-map (λ w. 1 ≤ w) (size parent n) (those n (is_light parent n p))
          (those_all (λ x. 1 ≤ size parent n x) n (is_light parent n p) (λ x e. size_some T x (child T x p (light_child T p x e)).1))

  top_in : (v : ℕ) → v < n → top parent n v < n
  top_in v l = let a = top_le T v in omega arith

  path_answered :
      (word : List ℕ → ℕ → Word) (v : ℕ) → v < n
      → answer word (path_weights parent n (top parent n v)) (place parent n v) ≡ Ok (path_word parent n word v)
  unfolding path_word
  path_answered word v l =
      cond-true (accepts (path_weights parent n (top parent n v)) (place parent n v)) _ _ (accepts_yes _ _ (path_fine (top parent n v) (top_in v l)) (path_inside v))

  branch_answered :
      (word : List ℕ → ℕ → Word) (p c : ℕ) → is_light parent n p c ≡ true
      → answer word (branch_weights parent n p) (turn parent n p c) ≡ Ok (branch_word parent n word p c)
  unfolding branch_word
  branch_answered word p c t = cond-true (accepts (branch_weights parent n p) (turn parent n p c)) _ _ (accepts_yes _ _ (branch_fine p c t) (branch_inside p c t))

  pub accepted : Accepted parent n
  accepted =
      record {
        paths = record {
          accepted = path_fine;
          total = path_total;
          inside = λ v l. path_inside v;
          weight = λ v l. path_weight v;
          answered = path_answered;
        };
        branches = record {
          accepted = branch_fine;
          total = branch_total;
          inside = branch_inside;
          weight = branch_weight;
          answered = branch_answered;
        };
      }

  -- ---- words

  module _ {word : List ℕ → ℕ → Word} (L : Lawful word) where
    pub path_fit : (v : ℕ) → v < n → Fit (path_word parent n word v)
    unfolding path_word
    path_fit v l = L.fit _ _ (path_fine (top parent n v) (top_in v l)) (path_inside v)

    pub branch_fit : (p c : ℕ) → is_light parent n p c ≡ true → Fit (branch_word parent n word p c)
    unfolding branch_word
    branch_fit p c t = L.fit _ _ (branch_fine p c t) (branch_inside p c t)

    -- on one path, the word of a higher node stands before that of a lower one
    pub path_before :
        (u v : ℕ) → v < n → top parent n u ≡ top parent n v → place parent n u < place parent n v
        → Before (bits (path_word parent n word u)) (bits (path_word parent n word v))
    unfolding path_word
    path_before u v l e h =
        subst (λ (t : ℕ). Before (bits (word (path_weights parent n t) (place parent n u))) (bits (word (path_weights parent n (top parent n v)) (place parent n v)))) (sym e)
        (L.ordered (path_weights parent n (top parent n v)) (place parent n u) (place parent n v) (path_fine (top parent n v) (top_in v l)) h (path_inside v))

    -- of two light children the word of the smaller number stands before that of the greater
    pub branch_before :
        (p c d : ℕ) → is_light parent n p c ≡ true → is_light parent n p d ≡ true → c < d
        → Before (bits (branch_word parent n word p c)) (bits (branch_word parent n word p d))
    unfolding branch_word
    branch_before p c d s t h = L.ordered (branch_weights parent n p) (turn parent n p c) (turn parent n p d) (branch_fine p c s) turns (branch_inside p d t)
      where
        turns : turn parent n p c < turn parent n p d
        turns = unfold turn in those_less d c (is_light parent n p) s h

  module _ (word : List ℕ → ℕ → Word) (B : Balanced word) where
    pub path_balance : (v : ℕ) → v < n → 2 ^ (path_word parent n word v).len * light_size parent n v < 4 * size parent n (top parent n v)
    unfolding path_word
    path_balance v l =
        let a = B (path_weights parent n (top parent n v)) (place parent n v) (path_fine (top parent n v) (top_in v l)) (path_inside v) in
        rw (path_weight v, path_total (top parent n v) (top_in v l)) at a

    pub branch_balance : (p c : ℕ) → is_light parent n p c ≡ true → 2 ^ (branch_word parent n word p c).len * size parent n c < 4 * light_size parent n p
    unfolding branch_word
    branch_balance p c t =
        let l = child T c p (light_child T p c t) in
        let a = B (branch_weights parent n p) (turn parent n p c) (branch_fine p c t) (branch_inside p c t) in
        let b : 2 ^ (branch_word parent n word p c).len * size parent n c < 4 * sum (branch_weights parent n p) = rw (branch_weight p c t) at a in
        let d = branch_total p (omega arith) in
        omega arith

pub lists_accepted : ListsAccepted
lists_accepted parent n T = accepted T
