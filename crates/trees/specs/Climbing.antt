-- What is answered about nodes of a host's tree, by climbing it.
use Rattle.std.specs.Prelude.{ℕ, Bool, cond, List, [], ◌∷◌, Some, None, Ok, Err, Option, Result, nat_lt}
use Rattle.trees.specs.declared.host.HostFault.{HostFault}
use Rattle.trees.specs.declared.climb.ClimbRefusal.{ClimbRefusal}
use Rattle.trees.specs.declared.climb.ClimbRefusal.TheVariants.{NoTree, NoSuchNode}
use Rattle.trees.specs.declared.climb.Assembly.{Assembly}
use Rattle.trees.specs.Above.{depth_of, is_above}
use Rattle.trees.specs.Deepest.{meet_all}

-- the first of these numbers that is no node of n
abbrev pub first_missing : ℕ → List ℕ → Option ℕ
first_missing n [] = None
first_missing n (v ∷ vs) = cond (nat_lt v n) (first_missing n vs) (Some v)

abbrev pub unless_missing : {A : Type 0} → Option ℕ → A → Result A ClimbRefusal
unless_missing (Some v) x = Err (NoSuchNode v)
unless_missing None x = Ok x

-- an answer x about some numbers, where there is a tree and all of them are nodes of it
abbrev pub about : {A : Type 0} → Result ℕ HostFault → List ℕ → A → Result A ClimbRefusal
about (Err f) vs x = Err (NoTree f)
about (Ok n) vs x = unless_missing (first_missing n vs) x

module _ (verdict : Result ℕ HostFault) (parent : ℕ → Option ℕ) where
  abbrev pub depth_answer : ℕ → Result ℕ ClimbRefusal
  depth_answer v = about verdict (v ∷ []) (depth_of parent v)

  abbrev pub above_answer : ℕ → ℕ → Result Bool ClimbRefusal
  above_answer a v = about verdict (a ∷ v ∷ []) (is_above parent a v)

  abbrev pub meet_answer : ℕ → List ℕ → Result Assembly ClimbRefusal
  meet_answer v vs = about verdict (v ∷ vs) (record { node = meet_all parent v vs; depth = depth_of parent (meet_all parent v vs) })
