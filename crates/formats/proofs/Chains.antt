-- Words and depths of a chain of fields.
use Rattle.std.proofs.Common.{◌≡◌, ℕ, zero, suc, ◌+◌, ◌-◌, ◌*◌, ◌/◌, ◌%◌, ◌<◌, ◌≤◌, false, cond, eqb, List, [], ◌∷◌, ◌++◌, length, get_or, take, refl, ap, ◌∙◌, arith}
use Rattle.std.specs.List.{flat_map}
use Rattle.std.proofs.lemmas.List.{length-append, get_or_append_left, get_or-append_right}
use Rattle.formats.specs.Limits.{most_depth, most_field_bits}
use Rattle.formats.specs.Label.{Word, path, branch, Label, words_in, depths_in, body_in, Fit, Chain}
use Rattle.formats.specs.Models.{ends_from, field_by}

-- words one after the other
abbrev pub flat : List Word → Word
flat ws = flat_map (λ w. w) ws

pub flat_more : (ws : List Word) (i : ℕ) → i < length ws → length (flat (take (suc i) ws)) ≡ length (flat (take i ws)) + length (get_or ws i [])
flat_more [] i h = absurd (omega arith)
flat_more (w ∷ ws) zero h = length-append w [] ∙ omega arith
flat_more (w ∷ ws) (suc i) h =
    length-append w (flat (take (suc i) ws)) ∙ ap (λ n. length w + n) (flat_more ws i (omega arith)) ∙ omega (arith, length-append w (flat (take i ws)))

pub flat_all : (ws : List Word) (i : ℕ) → length (flat (take i ws)) ≤ length (flat ws)
flat_all [] zero = omega arith
flat_all [] (suc i) = omega arith
flat_all (w ∷ ws) zero = omega arith
flat_all (w ∷ ws) (suc i) = omega (arith, flat_all ws i, length-append w (flat ws), length-append w (flat (take i ws)))

pub flat_at : (ws : List Word) (i k : ℕ) → i < length ws → k < length (get_or ws i []) → get_or (flat ws) (length (flat (take i ws)) + k) false ≡ get_or (get_or ws i []) k false
flat_at [] i k h g = absurd (omega arith)
flat_at (w ∷ ws) zero k h g =
    let z : 0 + k ≡ k = omega arith in
    ap (λ n. get_or (w ++ flat ws) n false) z ∙ get_or_append_left w (flat ws) false k g
flat_at (w ∷ ws) (suc i) k h g =
    let a = length-append w (flat (take i ws)) in
    let z : length (w ++ flat (take i ws)) + k - length w ≡ length (flat (take i ws)) + k = omega arith in
    get_or-append_right w (flat ws) (length w) (length (w ++ flat (take i ws)) + k) false refl (omega arith)
    ∙ ap (λ n. get_or (flat ws) n false) z
    ∙ flat_at ws i k (omega arith) g

pub length_ends : (b : ℕ) (ws : List Word) → length (ends_from b ws) ≡ length ws
length_ends b [] = refl
length_ends b (w ∷ ws) = ap suc (length_ends (b + length w) ws)

pub ends_at : (b : ℕ) (ws : List Word) (i : ℕ) → i < length ws → get_or (ends_from b ws) i 0 ≡ b + length (flat (take (suc i) ws))
ends_at b [] i h = absurd (omega arith)
ends_at b (w ∷ ws) zero h = omega (arith, length-append w [])
ends_at b (w ∷ ws) (suc i) h = omega (arith, ends_at (b + length w) ws i (omega arith), length-append w (flat (take (suc i) ws)))

pub length_words : (l : Label) → length (words_in l) ≡ length l
length_words [] = refl
length_words (x ∷ l) = ap suc (length_words l)

-- chains
pub chain_fit : (low : ℕ) (l : Label) → Chain low l → (i : ℕ) → i < length l → Fit (get_or (words_in l) i [])
chain_fit low [] h i g = absurd h
chain_fit low (path w d ∷ []) h zero g = h.0
chain_fit low (path w d ∷ []) h (suc i) g = absurd (omega arith)
chain_fit low (path w d ∷ branch b ∷ l) h zero g = h.0
chain_fit low (path w d ∷ branch b ∷ l) h (suc zero) g = h.3
chain_fit low (path w d ∷ branch b ∷ l) h (suc (suc i)) g = chain_fit (suc d) l h.4 i (omega arith)
chain_fit low (path w d ∷ path b e ∷ l) h i g = absurd h
chain_fit low (branch w ∷ l) h i g = absurd h

pub chain_depths : (low : ℕ) (l : Label) → Chain low l → 2 * length (depths_in l) ≡ length l + 1
chain_depths low [] h = absurd h
chain_depths low (path w d ∷ []) h = refl
chain_depths low (path w d ∷ branch b ∷ l) h = omega (arith, chain_depths (suc d) l h.4)
chain_depths low (path w d ∷ path b e ∷ l) h = absurd h
chain_depths low (branch w ∷ l) h = absurd h

pub chain_low : (low : ℕ) (l : Label) → Chain low l → low ≤ get_or (depths_in l) 0 0
chain_low low [] h = absurd h
chain_low low (path w d ∷ []) h = h.1
chain_low low (path w d ∷ branch b ∷ l) h = h.1
chain_low low (path w d ∷ path b e ∷ l) h = absurd h
chain_low low (branch w ∷ l) h = absurd h

pub chain_rises : (low : ℕ) (l : Label) → Chain low l → (j : ℕ) → suc j < length (depths_in l) → get_or (depths_in l) j 0 < get_or (depths_in l) (suc j) 0
chain_rises low [] h j g = absurd h
chain_rises low (path w d ∷ []) h j g = absurd (omega arith)
chain_rises low (path w d ∷ branch b ∷ l) h zero g = chain_low (suc d) l h.4
chain_rises low (path w d ∷ branch b ∷ l) h (suc j) g = chain_rises (suc d) l h.4 j (omega arith)
chain_rises low (path w d ∷ path b e ∷ l) h j g = absurd h
chain_rises low (branch w ∷ l) h j g = absurd h

pub chain_shallow : (low : ℕ) (l : Label) → Chain low l → (j : ℕ) → j < length (depths_in l) → get_or (depths_in l) j 0 ≤ most_depth
chain_shallow low [] h j g = absurd h
chain_shallow low (path w d ∷ []) h zero g = h.2
chain_shallow low (path w d ∷ []) h (suc j) g = absurd (omega arith)
chain_shallow low (path w d ∷ branch b ∷ l) h zero g = h.2
chain_shallow low (path w d ∷ branch b ∷ l) h (suc j) g = chain_shallow (suc d) l h.4 j (omega arith)
chain_shallow low (path w d ∷ path b e ∷ l) h j g = absurd h
chain_shallow low (branch w ∷ l) h j g = absurd h

pub chain_field : (low : ℕ) (l : Label) → Chain low l → (i : ℕ) → i < length l → get_or l i (branch []) ≡ field_by i (get_or (words_in l) i []) (get_or (depths_in l) (i / 2) 0)
chain_field low [] h i g = absurd h
chain_field low (path w d ∷ []) h zero g = refl
chain_field low (path w d ∷ []) h (suc i) g = absurd (omega arith)
chain_field low (path w d ∷ branch b ∷ l) h zero g = refl
chain_field low (path w d ∷ branch b ∷ l) h (suc zero) g = refl
chain_field low (path w d ∷ branch b ∷ l) h (suc (suc i)) g =
    let x : i % 2 ≡ suc (suc i) % 2 = omega arith in
    let y : suc (i / 2) ≡ suc (suc i) / 2 = omega arith in
    chain_field (suc d) l h.4 i (omega arith)
    ∙ (λ t. cond (eqb (x t) 0) (path (get_or (words_in l) i []) (get_or (d ∷ depths_in l) (y t) 0)) (branch (get_or (words_in l) i [])))
chain_field low (path w d ∷ path b e ∷ l) h i g = absurd h
chain_field low (branch w ∷ l) h i g = absurd h

-- a body has at most 32 bits for each field
pub chain_short : (low : ℕ) (l : Label) → Chain low l → length (body_in l) ≤ most_field_bits * length l
chain_short low [] h = absurd h
chain_short low (path w d ∷ []) h = omega (arith, length-append w [], h.0)
chain_short low (path w d ∷ branch b ∷ l) h =
    omega (arith, length-append w (b ++ body_in l), length-append b (body_in l), h.0, h.3, chain_short (suc d) l h.4)
chain_short low (path w d ∷ path b e ∷ l) h = absurd h
chain_short low (branch w ∷ l) h = absurd h
