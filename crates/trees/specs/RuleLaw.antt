-- The proof that a host by a rule obeys the law of hosts. Nothing here need be believed.
use Rattle.std.specs.Prelude.{◌≡◌, ℕ, ◌<◌, ◌≤◌, Some, Ok, refl}
use Rattle.std.proofs.Common.{arith}
use Rattle.std.proofs.lemmas.Bool.{eqb-false, ltb-false}
use Rattle.trees.specs.declared.rule.Shape.{Shape}
use Rattle.trees.specs.declared.rule.Shape.TheVariants.{Chain, Star, Binary}
use Rattle.trees.specs.Tree.{Tree, most_nodes}
use Rattle.trees.specs.HostLaw.{host_tree}
use Rattle.trees.specs.Rule.{rule_verdict, parent_by, rule_parent}

below : (s : Shape) (v : ℕ) → 1 ≤ v → parent_by s v < v
below Chain v h = omega arith
below Star v h = omega arith
below Binary v h = omega arith

pub rule_tree : (s : Shape) (m n : ℕ) → rule_verdict m ≡ Ok n → Tree (rule_parent s m) n
rule_tree s m n e =
    let some : 1 ≤ n = grind (arith, eqb-false, ltb-false) in
    let few : n ≤ most_nodes = grind (arith, eqb-false, ltb-false) in
    host_tree (rule_verdict m) n (λ v. Some (parent_by s v)) e some few (λ v i j. (parent_by s v, refl, below s v i))
