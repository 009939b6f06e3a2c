-- Words stored along a chain.
use Rattle.std.proofs.Common.{◌≡◌, ℕ, ◌+◌, ◌/◌, ◌%◌, ◌<◌, ◌≤◌, ◌≢◌, List, length, set, sym, ◌∙◌, subst, arith, get_or-set_other, get_or-set_same, below_more}
use Rattle.codes.specs.declared.word.Word.{Word}
use Rattle.rows.specs.Chains.{at, Held, Same, Off, Stored}

-- one word is stored in three rows
pub held_here : (w : Word) (high low len : List ℕ) (c : ℕ) → c < length high → c < length low → c < length len
    → Held w (set high c (w.value / 65536)) (set low c (w.value % 65536)) (set len c w.len) c
held_here w high low len c a b d =
    (omega (arith, get_or-set_same high c (w.value / 65536) 0 a, get_or-set_same low c (w.value % 65536) 0 b), get_or-set_same len c w.len 0 d)

pub same_else : (w : Word) (high low len : List ℕ) (c u : ℕ) → u ≢ c
    → Same high low len (set high c (w.value / 65536)) (set low c (w.value % 65536)) (set len c w.len) u
same_else w high low len c u ne =
    (get_or-set_other high c u (w.value / 65536) 0 ne, get_or-set_other low c u (w.value % 65536) 0 ne, get_or-set_other len c u w.len 0 ne)

pub held_same : (w : Word) (a b c a' b' c' : List ℕ) (u : ℕ) → Same a b c a' b' c' u → Held w a b c u → Held w a' b' c' u
held_same w a b c a' b' c' u s h = (omega (arith, s.0, s.1, h.0), s.2 ∙ h.1)

pub same_same : (a b c a' b' c' a'' b'' c'' : List ℕ) (u : ℕ) → Same a b c a' b' c' u → Same a' b' c' a'' b'' c'' u → Same a b c a'' b'' c'' u
same_same a b c a' b' c' a'' b'' c'' u s t = (t.0 ∙ s.0, t.1 ∙ s.1, t.2 ∙ s.2)

-- the words of the first i nodes are stored
pub record Walk (f : ℕ → Word) (nodes : List ℕ) (i : ℕ) (a b d a' b' d' : List ℕ) : Type 0 where
  pub held : (j : ℕ) → j < i → Held (f j) a' b' d' (at nodes j)
  pub kept : (u : ℕ) → Off nodes u → Same a b d a' b' d' u

module _ (f : ℕ → Word) (nodes a b d : List ℕ) where
  pub walk_end : (i : ℕ) (a' b' d' : List ℕ) → length nodes ≤ i → Walk f nodes i a b d a' b' d' → Stored f nodes a b d a' b' d'
  walk_end i a' b' d' h W = record { held = λ j l. W.held j (omega arith); kept = W.kept }

  module _ (c i : ℕ) (a' b' d' : List ℕ) (W : Walk f nodes i a b d a' b' d') (li : i < length nodes) (here : at nodes i ≡ c) (behind : (j : ℕ) → j < i → at nodes j < at nodes i) (w : Word) (e : w ≡ f i) (la : c < length a') (lb : c < length b') (ld : c < length d') where
    abbrev A : List ℕ
    A = set a' c (w.value / 65536)

    abbrev B : List ℕ
    B = set b' c (w.value % 65536)

    abbrev D : List ℕ
    D = set d' c w.len

    pub walk_on : Walk f nodes (i + 1) a b d A B D
    walk_on =
        record {
          held =
              below_more (λ (j : ℕ). Held (f j) A B D (at nodes j)) i
              (λ j h. let l = behind j h in
              held_same (f j) a' b' d' A B D (at nodes j) (same_else w a' b' d' c (at nodes j) (λ z. omega arith)) (W.held j h))
              (subst (λ (x : Word). Held x A B D (at nodes i)) e (subst (λ (u : ℕ). Held w A B D u) (sym here) (held_here w a' b' d' c la lb ld)));
          kept = λ u off. same_same a b d a' b' d' A B D u (W.kept u off) (same_else w a' b' d' c u (λ z. off i li (here ∙ sym z)));
        }
