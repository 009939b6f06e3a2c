-- How the bits inside a range of items go on inside its two halves.
use Rattle.std.proofs.Common.{◌≡◌, ℕ, zero, suc, ◌+◌, ◌-◌, ◌<◌, ◌≤◌, Bool, true, false, ◌⊎◌, List, ◌∷◌, length, sym, refl, ap, ◌∙◌, inl, inr, arith}
use Rattle.std.specs.Int.{div_ceil}
use Rattle.std.proofs.lemmas.Bool.{cases_lt}
use Rattle.codes.specs.Halves.{half_up, path, with_bit, word_of}
use Rattle.codes.specs.Splits.{path_one, path_left, path_right}
use Rattle.codes.specs.declared.word.Word.{Word}
use Rattle.codes.specs.Laws.{split_bits}
use Rattle.codes.specs.Theorems.{Halving}

-- n splits are enough
pub path_enough : (f g n i : ℕ) → n ≤ f → n ≤ g → path f n i ≡ path g n i
path_enough zero g n i h k = sym (path_one g n i (omega arith))
path_enough (suc f) zero n i h k = path_one (suc f) n i (omega arith)
path_enough (suc f) (suc g) n i h k = go (cases_lt 1 n) (cases_lt i (half_up n)) (path_enough f g (half_up n) i) (path_enough f g (n - half_up n) (i - half_up n))
  where
    go : (1 < n) ⊎ (n ≤ 1) → (i < half_up n) ⊎ (half_up n ≤ i)
        → (half_up n ≤ f → half_up n ≤ g → path f (half_up n) i ≡ path g (half_up n) i)
        → (n - half_up n ≤ f → n - half_up n ≤ g → path f (n - half_up n) (i - half_up n) ≡ path g (n - half_up n) (i - half_up n))
        → path (suc f) n i ≡ path (suc g) n i
    go (inl two) (inl a) left right = path_left f n i two a ∙ ap (λ (u : List Bool). false ∷ u) (left (omega arith) (omega arith)) ∙ sym (path_left g n i two a)
    go (inl two) (inr a) left right = path_right f n i two a ∙ ap (λ (u : List Bool). true ∷ u) (right (omega arith) (omega arith)) ∙ sym (path_right g n i two a)
    go (inr one) s left right = path_one (suc f) n i one ∙ sym (path_one (suc g) n i one)

pub step_left : (n h i : ℕ) → h ≡ half_up n → 1 < n → i < h → path n n i ≡ false ∷ path h h i
step_left zero h i e two a = absurd (omega arith)
step_left (suc m) h i e two a =
    path_left m (suc m) i two (rw (← e) a) ∙ ap (λ (u : List Bool). false ∷ u) (rw (← e) (path_enough m h h i (omega arith) (omega arith)))

pub step_right : (n h i : ℕ) → h ≡ half_up n → 1 < n → h ≤ i → path n n i ≡ true ∷ path (n - h) (n - h) (i - h)
step_right zero h i e two a = absurd (omega arith)
step_right (suc m) h i e two a =
    path_right m (suc m) i two (rw (← e) a)
    ∙ ap (λ (u : List Bool). true ∷ u) (rw (← e) (path_enough m (suc m - h) (suc m - h) (i - h) (omega arith) (omega arith)))

-- the word v goes on after w with a bit, inside the left half or the right one: the room that is left, and the word in the end
pub left_room : (w v : Word) (n h i k : ℕ) → v ≡ with_bit w false → h ≡ div_ceil n 2 → 1 < n → i < h → w.len + length (path n n i) ≤ k → v.len + length (path h h i) ≤ k
left_room w v n h i k e f two a l = rw e (omega (arith, l, ap length (step_left n h i (omega arith) two a)))

pub right_room : (w v : Word) (n h i k : ℕ) → v ≡ with_bit w true → h ≡ div_ceil n 2 → 1 < n → h ≤ i → w.len + length (path n n i) ≤ k → v.len + length (path (n - h) (n - h) (i - h)) ≤ k
right_room w v n h i k e f two a l = rw e (omega (arith, l, ap length (step_right n h i (omega arith) two a)))

pub left_word : (w v : Word) (n h i : ℕ) → v ≡ with_bit w false → h ≡ div_ceil n 2 → 1 < n → i < h → word_of v.value v.len (path h h i) ≡ word_of w.value w.len (path n n i)
left_word w v n h i e f two a = rw (e, step_left n h i (omega arith) two a) refl

pub right_word : (w v : Word) (n h i : ℕ) → v ≡ with_bit w true → h ≡ div_ceil n 2 → 1 < n → h ≤ i → word_of v.value v.len (path (n - h) (n - h) (i - h)) ≡ word_of w.value w.len (path n n i)
right_word w v n h i e f two a = rw (e, step_right n h i (omega arith) two a) refl

pub halving : Halving
halving = record {
  alone = λ w. refl;
  longer = λ ws i two. split_bits (length ws) i two;
  ends = refl;
  left = λ n i. step_left n (half_up n) i refl;
  right = λ n i. step_right n (half_up n) i refl;
}
