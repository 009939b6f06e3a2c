-- What is proved of the two codes beside the law and balance.
use Rattle.std.specs.Prelude.{◌≡◌, ℕ, ◌-◌, ◌*◌, ◌^◌, ◌<◌, ◌≤◌, Bool, true, false, List, [], ◌∷◌, length}
use Rattle.codes.specs.declared.word.Word.{Word}
use Rattle.codes.specs.Words.{bits}
use Rattle.codes.specs.Weighing.{Weights}
use Rattle.codes.specs.Gilbert.{shift, gilbert_moore}
use Rattle.codes.specs.Halves.{half_up, path, bisection}

-- shift w W is the smallest c with W ≤ w * 2 ^ c
abbrev pub SmallestShift : Type 0
SmallestShift = (w W : ℕ) → 1 ≤ w → (W ≤ w * 2 ^ shift w W) × ((c : ℕ) → W ≤ w * 2 ^ c → shift w W ≤ c)

-- no word has more than 16 bits
abbrev pub AtMost16 : (List ℕ → ℕ → Word) → Type 0
AtMost16 f = (ws : List ℕ) (i : ℕ) → Weights ws → i < length ws → (f ws i).len ≤ 16

-- the bits of item i in a range of n items
abbrev pub inside : ℕ → ℕ → List Bool
inside n i = path n n i

-- Bisection halves: a lone item has the word 0; the word of an item of a longer list is its bits inside the whole list; inside a range
-- of one item there are no bits; inside a longer range the left part has half of the items, rounded up, and the bits of an item are 0
-- and its bits inside the left part, or 1 and its bits inside the right part.
pub record Halving : Type 0 where
  pub alone : (w : ℕ) → bits (bisection (w ∷ []) 0) ≡ false ∷ []
  pub longer : (ws : List ℕ) (i : ℕ) → 1 < length ws → bits (bisection ws i) ≡ inside (length ws) i
  pub ends : inside 1 0 ≡ []
  pub left : (n i : ℕ) → 1 < n → i < half_up n → inside n i ≡ false ∷ inside (half_up n) i
  pub right : (n i : ℕ) → 1 < n → half_up n ≤ i → inside n i ≡ true ∷ inside (n - half_up n) (i - half_up n)

-- small lists, bit by bit
pub record Table : Type 0 where
  pub gilbert_first : bits (gilbert_moore (3 ∷ 2 ∷ 1 ∷ []) 0) ≡ false ∷ true ∷ []
  pub gilbert_second : bits (gilbert_moore (3 ∷ 2 ∷ 1 ∷ []) 1) ≡ true ∷ false ∷ true ∷ []
  pub gilbert_third : bits (gilbert_moore (3 ∷ 2 ∷ 1 ∷ []) 2) ≡ true ∷ true ∷ true ∷ false ∷ []
  pub gilbert_alone : (w : ℕ) → 1 ≤ w → bits (gilbert_moore (w ∷ []) 0) ≡ true ∷ []
  pub bisection_first : bits (bisection (3 ∷ 2 ∷ 1 ∷ []) 0) ≡ false ∷ false ∷ []
  pub bisection_second : bits (bisection (3 ∷ 2 ∷ 1 ∷ []) 1) ≡ false ∷ true ∷ []
  pub bisection_third : bits (bisection (3 ∷ 2 ∷ 1 ∷ []) 2) ≡ true ∷ []
  pub bisection_alone : (w : ℕ) → bits (bisection (w ∷ []) 0) ≡ false ∷ []
