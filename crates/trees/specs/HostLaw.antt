-- The part of the law of hosts that our hosts share, with its proof. Nothing here need be believed.
use Rattle.std.specs.Prelude.{◌≡◌, ℕ, ◌<◌, ◌≤◌, Some, None, Ok, Option, Result, refl}
use Rattle.std.proofs.Common.{◌∙◌, arith}
use Rattle.std.proofs.lemmas.Bool.{ne_eqb, lt-ltb, le-ltb}
use Rattle.trees.specs.declared.host.HostFault.{HostFault}
use Rattle.trees.specs.Tree.{Tree, most_nodes}
use Rattle.trees.specs.Host.{for_children}

-- Under a verdict n the answers are a tree, if each node but the root has a parent below it and n is no more than may be.
pub host_tree :
    (w : Result ℕ HostFault) (n : ℕ) (o : ℕ → Option ℕ) → w ≡ Ok n → 1 ≤ n → n ≤ most_nodes
    → ((v : ℕ) → 1 ≤ v → v < n → (p : ℕ) × (o v ≡ Some p) × (p < v))
    → Tree (λ v. for_children w v (o v)) n
host_tree w n o e some few inner =
    record {
      some_node = some;
      few = few;
      root = rw e refl;
      inner = λ v a b. let i = inner v a b in (i.0, inside v a b ∙ i.1, i.2);
      outer = λ v a. outside v a;
    }
  where
    inside : (v : ℕ) → 1 ≤ v → v < n → for_children w v (o v) ≡ o v
    inside v a b = rw (e, ne_eqb v 0 (λ z. omega arith), lt-ltb v n b) refl

    outside : (v : ℕ) → n ≤ v → for_children w v (o v) ≡ None
    outside v a = rw (e, ne_eqb v 0 (λ z. omega arith), le-ltb v n a) refl
