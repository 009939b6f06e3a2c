-- What an answered word says, by any code.
use Rattle.std.proofs.Common.{◌≡◌, ℕ, ◌<◌, Bool, true, false, cond, List, IfOk, Ok, Err, Result, sym, refl, ◌∙◌, ap₂, subst₂}
use Rattle.codes.specs.declared.word.Word.{Word}
use Rattle.codes.specs.declared.code.CodeRefusal.{CodeRefusal}
use Rattle.codes.specs.declared.code.CodeRefusal.TheVariants.{NotAccepted}
use Rattle.codes.specs.Words.{bits, Before, Fit}
use Rattle.codes.specs.Weighing.{accepts}
use Rattle.codes.specs.Coding.{answer, Lawful}
use Rattle.codes.proofs.Accepting.{accepts_weights, accepts_index}

-- the item is accepted, and the word is its own
abbrev pub Own : (List ℕ → ℕ → Word) → List ℕ → ℕ → Word → Type 0
Own f ws i x = (accepts ws i ≡ true) × (x ≡ f ws i)

pub answer_ok : (f : List ℕ → ℕ → Word) (ws : List ℕ) (i : ℕ) (x : Word) → ◌≡◌ {A = Result Word CodeRefusal} (Ok x) (answer f ws i) → Own f ws i x
answer_ok f ws i x e = go (accepts ws i) refl e
  where
    go : (t : Bool) → accepts ws i ≡ t → ◌≡◌ {A = Result Word CodeRefusal} (Ok x) (cond t (Ok (f ws i)) (Err NotAccepted)) → Own f ws i x
    go true h k = (h, cc)
    go false h k = (cc, cc)

-- what is answered where an item is accepted
pub answer_yes : (f : List ℕ → ℕ → Word) (ws : List ℕ) (i : ℕ) (x : Word) → true ≡ accepts ws i → x ≡ f ws i → Ok x ≡ answer f ws i
answer_yes f ws i x h e = ap₂ (λ (t : Bool) (y : Word). cond t (Ok y) (Err NotAccepted)) h e

-- the same answer, where list and index go by other names
pub answer_moved : (f : List ℕ → ℕ → Word) (r : Result Word CodeRefusal) {vs ws : List ℕ} {i j : ℕ} → r ≡ answer f vs i → vs ≡ ws → i ≡ j → r ≡ answer f ws j
answer_moved f r e p q = e ∙ ap₂ (answer f) p q

pub own_word : (f : List ℕ → ℕ → Word) (r : Result Word CodeRefusal) (x : Word) {vs ws : List ℕ} {i j : ℕ} → r ≡ Ok x → r ≡ answer f vs i → vs ≡ ws → i ≡ j → x ≡ f ws j
own_word f r x {ws} {j} k e p q = (answer_ok f ws j x (sym k ∙ answer_moved f r e p q)).1

-- each answered word has 1 to 32 bits
pub answer_fit : (f : List ℕ → ℕ → Word) → Lawful f → (ws : List ℕ) (i : ℕ) → IfOk (answer f ws i) Fit
answer_fit f law ws i = go (accepts ws i) refl
  where
    go : (t : Bool) → accepts ws i ≡ t → IfOk {T = Word} {E = CodeRefusal} (cond t (Ok (f ws i)) (Err NotAccepted)) Fit
    go true h = law.fit ws i (accepts_weights ws i h) (accepts_index ws i h)
    go false h = tt

-- two answered words
pub pair_before : (f : List ℕ → ℕ → Word) → Lawful f → (ws : List ℕ) (i j : ℕ) (x y : Word) → Own f ws i x → Own f ws j y → i < j → Before (bits x) (bits y)
pair_before f law ws i j x y h k l =
    subst₂ (λ (u v : Word). Before (bits u) (bits v)) (sym h.1) (sym k.1)
    (law.ordered ws i j (accepts_weights ws i h.0) l (accepts_index ws j k.0))
