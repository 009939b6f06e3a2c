-- Links from node to node, the list of nodes along them, and words stored at nodes.
use Rattle.std.specs.Prelude.{◌≡◌, ℕ, zero, suc, ◌+◌, ◌*◌, ◌<◌, cond, List, [], ◌∷◌, length, Some, None, Option, ◌==◌, ◌≢◌, slice_index}
use Rattle.codes.specs.declared.word.Word.{Word}

-- the number at a place of a row
abbrev pub at : List ℕ → ℕ → ℕ
at xs i = slice_index xs i

-- each link that is not 0, for none, leads to a later node
abbrev pub Rising : List ℕ → Type 0
Rising next = (c : ℕ) → c < length next → at next c ≢ 0 → (c < at next c) × (at next c < length next)

-- 0 in a row of links is none
abbrev pub link : ℕ → Option ℕ
link x = cond (x == 0) None (Some x)

-- c, the node that it is linked to, and so on, k steps at most
unfoldable pub run : ℕ → List ℕ → ℕ → List ℕ
run zero next c = c ∷ []
run (suc k) next c = c ∷ cond (at next c == 0) [] (run k next (at next c))

-- links rise, so there are fewer steps than nodes
abbrev pub chain : List ℕ → ℕ → List ℕ
chain next c = run (length next) next c

-- the nodes along the links from one on, if there is one
abbrev pub ahead : List ℕ → Option ℕ → List ℕ
ahead next None = []
ahead next (Some c) = chain next c

-- three rows hold a word at a place: the two halves of its value, and its length
abbrev pub Held : Word → List ℕ → List ℕ → List ℕ → ℕ → Type 0
Held w high low len u = (at high u * 65536 + at low u ≡ w.value) × (at len u ≡ w.len)

-- the rows a, b, c have at a place what they had
abbrev pub Same : List ℕ → List ℕ → List ℕ → List ℕ → List ℕ → List ℕ → ℕ → Type 0
Same a b c a' b' c' u = (at a' u ≡ at a u) × (at b' u ≡ at b u) × (at c' u ≡ at c u)

-- three rows of n numbers each
abbrev pub Wide : ℕ → List ℕ → List ℕ → List ℕ → Type 0
Wide n a b c = (length a ≡ n) × (length b ≡ n) × (length c ≡ n)

-- u is none of a list
abbrev pub Off : List ℕ → ℕ → Type 0
Off xs u = (i : ℕ) → i < length xs → at xs i ≢ u

-- The words f 0, f 1, .. were stored at the nodes of xs, in turn, and elsewhere nothing was.
pub record Stored (f : ℕ → Word) (xs a b c a' b' c' : List ℕ) : Type 0 where
  pub held : (i : ℕ) → i < length xs → Held (f i) a' b' c' (at xs i)
  pub kept : (u : ℕ) → Off xs u → Same a b c a' b' c' u
