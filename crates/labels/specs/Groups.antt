-- The cover of several tags, joined two by two in any grouping.
use Rattle.std.specs.Prelude.{◌≡◌, ℕ, ◌<◌, List, [], ◌∷◌, ◌++◌, Ok, Err, Option, Result}
use Rattle.std.specs.List.{AllByRecursion}
use Rattle.trees.specs.Deepest.{Deepest}
use Rattle.codes.specs.declared.word.Word.{Word}
use Rattle.formats.specs.declared.answers.Part.{Part}
use Rattle.formats.specs.declared.fault.PairRefusal.{PairRefusal}
use Rattle.formats.specs.Cuts.{cut_tag}
use Rattle.formats.specs.Pairs.{side_of}
use Rattle.formats.specs.Queries.{cover_answer}
use Rattle.labels.specs.Sheet.{tag}

-- one node, or two groups
pub data Group : Type 0 where
  one : ℕ → Group
  joins : Group → Group → Group

-- the nodes of a group, from left to right
abbrev pub members : Group → List ℕ
members (one v) = v ∷ []
members (joins g h) = members g ++ members h

-- what a part names is cut out of its tag
abbrev pub cut_part : List ℕ → List ℕ → Result Part PairRefusal → Result (List ℕ) PairRefusal
cut_part a b (Ok p) = Ok (cut_tag (side_of p.side a b) p.fields)
cut_part a b (Err e) = Err e

-- the cover of two tags, as a tag; a refusal is passed on
abbrev pub cover_tags : Result (List ℕ) PairRefusal → Result (List ℕ) PairRefusal → Result (List ℕ) PairRefusal
cover_tags (Ok a) (Ok b) = cut_part a b (cover_answer a b)
cover_tags (Ok a) (Err e) = Err e
cover_tags (Err e) r = Err e

module _ (parent : ℕ → Option ℕ) (n : ℕ) (word : List ℕ → ℕ → Word) (number : ℕ) where
  -- the tags of a group's nodes, covered as it is grouped
  unfoldable pub group_tag : Group → Result (List ℕ) PairRefusal
  group_tag (one v) = Ok (tag parent n word number v)
  group_tag (joins g h) = cover_tags (group_tag g) (group_tag h)

  -- Some nodes have one deepest node at or above all of them, and its tag is the cover of their tags, however they are grouped.
  pub record GroupsCover : Type 0 where
    pub there_is : (v : ℕ) (vs : List ℕ) → AllByRecursion (λ x. x < n) (v ∷ vs) → (d : ℕ) × Deepest parent (v ∷ vs) d
    pub only : (vs : List ℕ) (d e : ℕ) → Deepest parent vs d → Deepest parent vs e → d ≡ e
    pub cover_is : (g : Group) (d : ℕ) → AllByRecursion (λ x. x < n) (members g) → Deepest parent (members g) d → group_tag g ≡ Ok (tag parent n word number d)
