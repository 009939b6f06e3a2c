-- Sizes by handing them up: from the last node to the first, each node adds its size to its parent's.
use Rattle.std.proofs.Common.{◌≡◌, ℕ, zero, suc, ◌+◌, ◌<◌, ◌≤◌, Bool, true, false, cond, eqb, leb, List, length, get_or, set, sym, refl, ap, ◌∙◌, inl, inr, arith, get_or-set_other, get_or-set_same}
use Rattle.std.proofs.lemmas.Bool.Decides.{nat_tests}
use Rattle.std.proofs.lemmas.Bool.{cases_eq, cases_lt}
use Rattle.rows.specs.Chains.{at}

-- each node but the root has its parent below it
abbrev pub Below : List ℕ → Type 0
Below up = (v : ℕ) → 1 ≤ v → v < length up → at up v < v

-- whether v is met on the way up from u, in at most k steps, by steps from nodes that are low or more
unfoldable pub meets : List ℕ → ℕ → ℕ → ℕ → ℕ → Bool
meets up low v zero u = eqb u v
meets up low v (suc k) u = cond (eqb u v) true (cond (leb low u) (meets up low v k (at up u)) false)

-- how many of the numbers below n pass a test
unfoldable pub tally : (ℕ → Bool) → ℕ → ℕ
tally p zero = 0
tally p (suc n) = cond (p n) 1 0 + tally p n

-- how many nodes have v met on their way up, by steps from nodes that are low or more
unfoldable pub size_from : List ℕ → ℕ → ℕ → ℕ
size_from up low v = tally (λ u. meets up low v u u) (length up)

tally_same : (p q : ℕ → Bool) (n : ℕ) → ((u : ℕ) → u < n → p u ≡ q u) → tally p n ≡ tally q n
unfolding tally
tally_same p q zero h = refl
tally_same p q (suc n) h =
    let here = h n (omega arith) in
    let rest = tally_same p q n (λ u l. h u (omega arith)) in
    cc

tally_add : (p q r : ℕ → Bool) (n : ℕ) → ((u : ℕ) → u < n → cond (p u) 1 0 ≡ cond (q u) 1 0 + cond (r u) 1 0) → tally p n ≡ tally q n + tally r n
unfolding tally
tally_add p q r zero h = refl
tally_add p q r (suc n) h =
    let here = h n (omega arith) in
    let rest = tally_add p q r n (λ u l. h u (omega arith)) in
    omega arith

tally_le : (p : ℕ → Bool) (n : ℕ) → tally p n ≤ n
unfolding tally
tally_le p zero = omega arith
tally_le p (suc n) = let rest = tally_le p n in grind arith

-- none below, where each fails
tally_none : (p : ℕ → Bool) (n : ℕ) → ((u : ℕ) → u < n → p u ≡ false) → tally p n ≡ 0
unfolding tally
tally_none p zero h = refl
tally_none p (suc n) h =
    let here = h n (omega arith) in
    let rest = tally_none p n (λ u l. h u (omega arith)) in
    grind arith

-- one below, where one number passes
tally_one : (p : ℕ → Bool) (w n : ℕ) → w < n → p w ≡ true → ((u : ℕ) → u < n → (u ≡ w → ⊥) → p u ≡ false) → tally p n ≡ 1
unfolding tally
tally_one p w zero lt at-w h = absurd (omega arith)
tally_one p w (suc n) lt at-w h =
    elim (cases_eq w n) [
      | inl e ↦
          let rest = tally_none p n (λ u l. h u (omega arith) (λ e'. omega arith)) in
          let here : p n ≡ true = rw (← e) at-w in
          grind arith
      | inr ne ↦
          let rest = tally_one p w n (omega arith) at-w (λ u l d. h u (omega arith) d) in
          let here : p n ≡ false = h n (omega arith) (λ e. ne (omega arith)) in
          grind arith
    ]

-- ---- one more node hands its size up: from v + 1 to v

stop : (up : List ℕ) (v w p k : ℕ) → p < v → (p ≡ w → ⊥) → meets up v w k p ≡ false
unfolding meets
stop up v w p zero lt ne = grind (arith, nat_tests)
stop up v w p (suc k) lt ne = grind (arith, nat_tests)

other : (up : List ℕ) (v w : ℕ) → at up v < v → (at up v ≡ w → ⊥) → (k u : ℕ) → meets up v w k u ≡ meets up (v + 1) w k u
unfolding meets
other up v w lt ne zero u = refl
other up v w lt ne (suc k) u =
    let ih = other up v w lt ne k (at up u) in
    let s = stop up v w (at up v) k lt ne in
    grind (arith, nat_tests)

arrived : (up : List ℕ) (low v k : ℕ) → meets up low v k v ≡ true
unfolding meets
arrived up low v zero = grind (arith, nat_tests)
arrived up low v (suc k) = grind (arith, nat_tests)

through : (up : List ℕ) (v : ℕ) → Below up → 1 ≤ v → v < length up → (k u : ℕ) → u ≤ k → u < length up → cond (meets up v (at up v) k u) 1 0 ≡ cond (meets up (v + 1) (at up v) k u) 1 0 + cond (meets up (v + 1) v k u) 1 0
unfolding meets
through up v ok pos lt zero u le in-u =
    let lv = ok v pos lt in
    grind (arith, nat_tests)
through up v ok pos lt (suc k) u le in-u =
    let lv = ok v pos lt in
    let a = arrived up v (at up v) k in
    elim (cases_lt u 1) [
      | inl z ↦ grind (arith, nat_tests)
      | inr nz ↦
          let lu = ok u nz in-u in
          let ih = through up v ok pos lt k (at up u) (omega arith) (omega arith) in
          grind (arith, nat_tests)
    ]

pub from_all : (up : List ℕ) (v : ℕ) → v < length up → size_from up (length up) v ≡ 1
unfolding size_from
from_all up v lt =
    tally_one (λ u. meets up (length up) v u u) v (length up) lt (arrived up (length up) v v) (λ u l ne. stop up (length up) v u u l ne)

pub from_other : (up : List ℕ) (v w : ℕ) → Below up → 1 ≤ v → v < length up → (at up v ≡ w → ⊥) → size_from up v w ≡ size_from up (v + 1) w
unfolding size_from
from_other up v w ok pos lt ne = tally_same _ _ (length up) (λ u l. other up v w (ok v pos lt) ne u u)

pub from_parent : (up : List ℕ) (v : ℕ) → Below up → 1 ≤ v → v < length up → size_from up v (at up v) ≡ size_from up (v + 1) (at up v) + size_from up (v + 1) v
unfolding size_from
from_parent up v ok pos lt = tally_add _ _ _ (length up) (λ u l. through up v ok pos lt u u (omega arith) l)

pub from_le : (up : List ℕ) (low v : ℕ) → size_from up low v ≤ length up
unfolding size_from
from_le up low v = tally_le _ (length up)

-- ---- the loop's turn, in the words of its invariant: j is v + 1
abbrev pub HasFrom : List ℕ → List ℕ → ℕ → Type 0
HasFrom up size low = (w : ℕ) → w < length up → get_or size w 0 ≡ size_from up low w

pub turn_fits : (up size : List ℕ) (v j : ℕ) → j ≡ v + 1 → Below up → 1 ≤ v → v < length up → HasFrom up size j → get_or size (at up v) 0 + get_or size v 0 ≤ length up
turn_fits up size v j e ok pos lt inv =
    let lv = ok v pos lt in
    let a : get_or size (at up v) 0 ≡ size_from up (v + 1) (at up v) = inv (at up v) (omega arith) ∙ ap (λ i. size_from up i (at up v)) e in
    let b : get_or size v 0 ≡ size_from up (v + 1) v = inv v lt ∙ ap (λ i. size_from up i v) e in
    omega (arith, from_parent up v ok pos lt, from_le up v (at up v))

pub turn : (up size : List ℕ) (v j : ℕ) → j ≡ v + 1 → Below up → length size ≡ length up → 1 ≤ v → v < length up → HasFrom up size j → HasFrom up (set size (at up v) (get_or size (at up v) 0 + get_or size v 0)) v
turn up size v j e ok even pos lt inv w in-w =
    let lv = ok v pos lt in
    let lp : at up v < length size = omega arith in
    elim (cases_eq (at up v) w) [
      | inl p ↦
          let a : get_or size (at up v) 0 ≡ size_from up (v + 1) (at up v) = inv (at up v) (omega arith) ∙ ap (λ i. size_from up i (at up v)) e in
          let b : get_or size v 0 ≡ size_from up (v + 1) v = inv v lt ∙ ap (λ i. size_from up i v) e in
          let s = get_or-set_same size (at up v) (get_or size (at up v) 0 + get_or size v 0) 0 lp in
          let t = from_parent up v ok pos lt in
          rw (← p) (omega arith)
      | inr ne ↦
          let s = get_or-set_other size (at up v) w (get_or size (at up v) 0 + get_or size v 0) 0 (λ q. ne (sym q)) in
          s ∙ inv w in-w ∙ ap (λ i. size_from up i w) e ∙ sym (from_other up v w ok pos lt ne)
    ]
