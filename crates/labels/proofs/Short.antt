-- How many fields a label has, and how many bits under a balanced code.
use Rattle.std.proofs.Common.{◌≡◌, ℕ, zero, suc, ◌+◌, ◌*◌, ◌/◌, ◌^◌, ◌<◌, ◌≤◌, false, List, [], ◌∷◌, ◌++◌, length, Some, Option, refl, ⊎_elim, mul-le-mul_left, pow-suc, arith, length-append, pow_pos, pow_mono, pow-add}
use Rattle.std.proofs.lemmas.Bool.{cases_lt}
use Rattle.trees.specs.Tree.{Tree}
use Rattle.trees.specs.Above.{depth_of}
use Rattle.trees.proofs.Upward.{child}
use Rattle.codes.specs.declared.word.Word.{Word}
use Rattle.codes.specs.Words.{odd, digits, bits}
use Rattle.codes.specs.Coding.{Balanced}
use Rattle.codes.specs.Gilbert.{gilbert_moore}
use Rattle.codes.proofs.Shifts.{gilbert_balanced}
use Rattle.formats.specs.Label.{path, branch, Label, word_in, body_in}
use Rattle.labels.specs.Sizes.{size, is_heavy, light_size}
use Rattle.labels.specs.Paths.{top}
use Rattle.labels.specs.Labels.{path_word, branch_word, path_field, branch_field, label}
use Rattle.labels.specs.Bounds.{Greatest, LightHalves, FewFields, FieldsBounded, balanced_bits, BodiesShort}
use Rattle.labels.proofs.Sizes.{size_few, size_some, size_child, light_some, light_half, light_test}
use Rattle.labels.proofs.Paths.{cases_in, top_heavy, top_light}
use Rattle.labels.proofs.Weighing.{path_balance, branch_balance}
use Rattle.labels.proofs.Labels.{pre, pre_none, pre_heavy, pre_light, label_is}

pub light_halves : LightHalves
light_halves parent n T p c t = let h = light_half T p c t in omega arith

-- ---- fields; x stands for a power of two

kept : (x s S N : ℕ) → s ≤ S → x * (S + 1) ≤ N → x * (s + 1) ≤ N
kept x s S N h k = let l : s + 1 ≤ S + 1 = omega arith in let f = mul-le-mul_left x l in omega arith

doubled : (x s S N : ℕ) → 2 * s + 1 ≤ S → x * (S + 1) ≤ N → x * 2 * (s + 1) ≤ N
doubled x s S N h k = let l : 2 * (s + 1) ≤ S + 1 = omega arith in let f = mul-le-mul_left x l in omega arith

twice : (x s N : ℕ) → 1 ≤ s → x * (s + 1) ≤ N → x * 2 ≤ N
twice x s N h k = let l : 2 ≤ s + 1 = omega arith in let f = mul-le-mul_left x l in omega arith

-- exponents of two compare as the powers do
pub exponent : (i t x : ℕ) → 2 ^ i ≤ x → x < 2 ^ t → i < t
exponent i t x h k = ⊎_elim (λ l. l) (λ l. let m = pow_mono {i = t} {j = i} l in absurd (omega arith)) (cases_lt i t)

module _ {parent : ℕ → Option ℕ} {n : ℕ} (word : List ℕ → ℕ → Word) (T : Tree parent n) where
  -- i light children on the way down to v have halved the size i times
  pub record Halved (v : ℕ) : Type 0 where
    pub times : ℕ
    pub twice_as_many : length (pre parent n word v) ≡ 2 * times
    pub left : 2 ^ times * (size parent n v + 1) ≤ n + 1

  pub halved : (v : ℕ) → Halved v
  halved =
      cases_in T Halved
      (λ v e. let a = size_few T v in record { times = 0; twice_as_many = rw (pre_none word T v e) refl; left = omega arith })
      (λ v p e t ih.
      let a = size_child T p v e in
      record {
        times = ih.times;
        twice_as_many = rw (pre_heavy word T v p e t) ih.twice_as_many;
        left = kept (2 ^ ih.times) (size parent n v) (size parent n p) (n + 1) (omega arith) ih.left;
      })
      (λ v p e t ih.
      let a = light_half T p v (light_test T p v e t) in
      let m = length-append (pre parent n word p) (path_field parent n word p ∷ branch_field parent n word p v ∷ []) in
      record {
        times = suc ih.times;
        twice_as_many = rw (pre_light word T v p e t) (omega arith);
        left = rw pow-suc (doubled (2 ^ ih.times) (size parent n v) (size parent n p) (n + 1) a ih.left);
      })

  pub label_length : (v : ℕ) → length (label parent n word v) ≡ 2 * (halved v).times + 1
  label_length v =
      let m = length-append (pre parent n word v) (path_field parent n word v ∷ []) in
      let k = (halved v).twice_as_many in
      rw (label_is word T v) (omega arith)

  pub times_few : (v : ℕ) → v < n → 2 ^ suc (halved v).times ≤ n + 1
  times_few v l = rw pow-suc (twice (2 ^ (halved v).times) (size parent n v) (n + 1) (size_some T v l) (halved v).left)

  pub few_fields : FewFields parent n word
  few_fields =
      record {
        by_size = λ v t l g. let e = label_length v in let k = exponent (suc (halved v).times) (t + 1) (n + 1) (times_few v l) g.not_more in omega arith;
        at_most = λ v l.
            let e = label_length v in
            let s = T.few in
            let k = exponent (suc (halved v).times) 16 (n + 1) (times_few v l) (omega arith) in
            omega arith;
      }

pub fields_bounded : FieldsBounded
fields_bounded parent n word T = few_fields word T

-- ---- bits under a balanced code

length_digits : (k x : ℕ) → length (digits k x) ≡ k
length_digits zero x = refl
length_digits (suc k) x = let i = length_digits k (x / 2) in let a = length-append (digits k (x / 2)) (odd x ∷ []) in omega arith

pub word_bits : (w : Word) → length (bits w) ≡ w.len
word_bits w = length_digits w.len w.value

body_append : (l m : Label) → length (body_in (l ++ m)) ≡ length (body_in l) + length (body_in m)
body_append [] m = omega arith
body_append (x ∷ l) m =
    let i = body_append l m in
    let a = length-append (word_in x) (body_in (l ++ m)) in
    let b = length-append (word_in x) (body_in l) in
    omega arith

-- x, a, c stand for powers of two: the bits so far, a path word's, a branch word's
carry : (x a c s l S N : ℕ) → c * s < 4 * l → a * l < 4 * S → x * S ≤ N → x * (a * c) * s ≤ 16 * N
carry x a c s l S N p q r =
    let p' : c * s ≤ 4 * l = omega arith in
    let f : a * (c * s) ≤ a * (4 * l) = mul-le-mul_left a p' in
    let g : a * (c * s) ≤ 16 * S = omega arith in
    let h : x * (a * (c * s)) ≤ x * (16 * S) = mul-le-mul_left x g in
    omega arith

last_carry : (x a l S N : ℕ) → 1 ≤ x → 1 ≤ l → a * l < 4 * S → x * S ≤ N → x * a < 4 * N
last_carry x a l S N one some q r =
    let q' : a * l + 1 ≤ 4 * S = omega arith in
    let f : x * (a * l + 1) ≤ x * (4 * S) = mul-le-mul_left x q' in
    let g : x * a * 1 ≤ x * a * l = mul-le-mul_left (x * a) some in
    omega arith

module _ {parent : ℕ → Option ℕ} {n : ℕ} (word : List ℕ → ℕ → Word) (T : Tree parent n) (B : Balanced word) where
  before_bits : ℕ → ℕ
  before_bits v = length (body_in (pre parent n word v))

  -- after i pairs of a path word and a branch word, the bits so far times the size of the path's top is at most 16 ^ i * n
  record Carried (v : ℕ) : Type 0 where
    times : ℕ
    twice_as_many : length (pre parent n word v) ≡ 2 * times
    bound : 2 ^ before_bits v * size parent n (top parent n v) ≤ 2 ^ (4 * times) * n

  pair_bits : (v p : ℕ) → parent v ≡ Some p → is_heavy parent n p v ≡ false → before_bits v ≡ before_bits p + ((path_word parent n word p).len + (branch_word parent n word p v).len)
  unfolding before_bits path_field branch_field
  pair_bits v p e t =
      let a = body_append (pre parent n word p) (path (bits (path_word parent n word p)) (depth_of parent p) ∷ branch (bits (branch_word parent n word p v)) ∷ []) in
      let b = length-append (bits (path_word parent n word p)) (bits (branch_word parent n word p v) ++ []) in
      let c = length-append (bits (branch_word parent n word p v)) [] in
      let d = word_bits (path_word parent n word p) in
      let g = word_bits (branch_word parent n word p v) in
      rw (pre_light word T v p e t) (omega arith)

  carried : (v : ℕ) → Carried v
  carried =
      cases_in T Carried
      (λ v e.
      let a = size_few T (top parent n v) in
      let z : before_bits v ≡ 0 = unfold before_bits in rw (pre_none word T v e) refl in
      record { times = 0; twice_as_many = rw (pre_none word T v e) refl; bound = rw z (omega arith) })
      (λ v p e t ih.
      let z : before_bits v ≡ before_bits p = unfold before_bits in rw (pre_heavy word T v p e t) refl in
      record {
        times = ih.times;
        twice_as_many = rw (pre_heavy word T v p e t) ih.twice_as_many;
        bound = rw (z, (top_heavy T v p e t).0) ih.bound;
      })
      (λ v p e t ih.
      let l = child T v p e in
      let m = length-append (pre parent n word p) (path_field parent n word p ∷ branch_field parent n word p v ∷ []) in
      let s : 4 * suc ih.times ≡ 4 * ih.times + 4 = omega arith in
      record {
        times = suc ih.times;
        twice_as_many = rw (pre_light word T v p e t) (omega arith);
        bound = rw ((top_light T v p e t).0, pair_bits v p e t, s, pow-add 2 (before_bits p) ((path_word parent n word p).len + (branch_word parent n word p v).len), pow-add 2 (path_word parent n word p).len (branch_word parent n word p v).len, pow-add 2 (4 * ih.times) 4)
            (let f = carry (2 ^ before_bits p) (2 ^ (path_word parent n word p).len) (2 ^ (branch_word parent n word p v).len) (size parent n v) (light_size parent n p) (size parent n (top parent n p)) (2 ^ (4 * ih.times) * n)
            (branch_balance T word B p v (light_test T p v e t)) (path_balance T word B p (omega arith)) ih.bound in omega arith);
      })

  label_bits : (v : ℕ) → length (body_in (label parent n word v)) ≡ before_bits v + (path_word parent n word v).len
  unfolding before_bits path_field
  label_bits v =
      let a = body_append (pre parent n word v) (path (bits (path_word parent n word v)) (depth_of parent v) ∷ []) in
      let b = length-append (bits (path_word parent n word v)) [] in
      let d = word_bits (path_word parent n word v) in
      rw (label_is word T v) (omega arith)

  short : (v b : ℕ) → v < n → Greatest b n → length (body_in (label parent n word v)) ≤ balanced_bits b
  short v b l g =
      let c = carried v in
      let f : 2 ^ before_bits v * 2 ^ (path_word parent n word v).len < 4 * (2 ^ (4 * c.times) * n) =
      last_carry (2 ^ before_bits v) (2 ^ (path_word parent n word v).len) (light_size parent n v) (size parent n (top parent n v)) (2 ^ (4 * c.times) * n)
      (pow_pos (before_bits v)) (light_some T v l) (path_balance T word B v l) c.bound in
      let m : 2 ^ (4 * c.times) * n ≤ 2 ^ (4 * c.times) * 2 ^ (b + 1) = mul-le-mul_left (2 ^ (4 * c.times)) (omega (arith, g.not_more)) in
      let p = pow-add 2 (before_bits v) (path_word parent n word v).len in
      let q = pow-add 2 (4 * c.times) (b + 1) in
      let r = pow-add 2 (4 * c.times + (b + 1)) 2 in
      let k : before_bits v + (path_word parent n word v).len < 4 * c.times + (b + 1) + 2 =
      exponent (before_bits v + (path_word parent n word v).len) (4 * c.times + (b + 1) + 2) (2 ^ (before_bits v + (path_word parent n word v).len)) (omega arith) (omega arith) in
      let same : (halved word T v).times ≡ c.times = omega (arith, (halved word T v).twice_as_many, c.twice_as_many) in
      let few : 2 ^ (halved word T v).times * 2 ≤ n + 1 = rw pow-suc at (times_few word T v l) in
      let i_few : (halved word T v).times < b + 1 = exponent (halved word T v).times (b + 1) n (omega (arith, pow_pos (halved word T v).times)) g.not_more in
      let e = label_bits v in
      omega arith

pub bodies_short : BodiesShort
bodies_short =
    record {
      balanced = λ word B parent n T. short word T B;
      gilbert = λ parent n T. short gilbert_moore T gilbert_balanced;
    }
