-- What two labels, and two tags, of one tree say of their nodes.
use Rattle.std.specs.Prelude.{◌≡◌, ℕ, ◌+◌, ◌*◌, ◌<◌, ◌≤◌, false, ◌≢◌, List, [], ◌∷◌, length, None, Ok, Option}
use Rattle.std.proofs.Math.IntN.{sub_ℕ}
use Rattle.trees.specs.Tree.{Tree}
use Rattle.trees.specs.Above.{AtOrAbove, depth_of}
use Rattle.trees.specs.Deepest.{Deepest}
use Rattle.codes.specs.declared.word.Word.{Word}
use Rattle.codes.specs.Coding.{Lawful}
use Rattle.formats.specs.declared.answers.Part.{Part}
use Rattle.formats.specs.declared.answers.Related.{Related}
use Rattle.formats.specs.declared.answers.Relation.{Relation}
use Rattle.formats.specs.declared.answers.Relation.TheVariants.{Same, FirstAbove, SecondAbove, Apart}
use Rattle.formats.specs.Label.{Label}
use Rattle.formats.specs.Limits.{most_number}
use Rattle.formats.specs.Layout.{count_of}
use Rattle.formats.specs.Cuts.{cut_tag, cut_answer}
use Rattle.formats.specs.Pairs.{clash, cover, fields_of, side_of, related}
use Rattle.formats.specs.Queries.{pair_fault, cover_answer, relate_answer}
use Rattle.labels.specs.Labels.{label}
use Rattle.labels.specs.Sheet.{tag}

-- how two nodes stand to each other
pub data Stands (parent : ℕ → Option ℕ) (u v : ℕ) : Relation → Type 0 where
  are_same : u ≡ v → Stands parent u v Same
  first_is : AtOrAbove parent u v → u ≢ v → Stands parent u v FirstAbove
  second_is : AtOrAbove parent v u → u ≢ v → Stands parent u v SecondAbove
  neither : (AtOrAbove parent u v → ⊥) → (AtOrAbove parent v u → ⊥) → Stands parent u v Apart

module _ (parent : ℕ → Option ℕ) (n : ℕ) (word : List ℕ → ℕ → Word) where
  abbrev pub the_label : ℕ → Label
  the_label v = label parent n word v

  -- the cover of the labels of two nodes: which side, and how many fields
  abbrev pub cover_of : ℕ → ℕ → Part
  cover_of u v = cover (the_label u) (the_label v)

  abbrev pub related_of : ℕ → ℕ → Related
  related_of u v = related (the_label u) (the_label v)

  -- Two nodes have one deepest node at or above both. Their labels can be of one tree, and the cover, cut out, is its label.
  pub record Covers : Type 0 where
    pub there_is : (u v : ℕ) → u < n → v < n → (d : ℕ) × Deepest parent (u ∷ v ∷ []) d
    pub only : (u v d e : ℕ) → Deepest parent (u ∷ v ∷ []) d → Deepest parent (u ∷ v ∷ []) e → d ≡ e
    pub no_clash : (u v : ℕ) → u < n → v < n → clash (the_label u) (the_label v) ≡ false
    pub cover_is : (u v d : ℕ) → u < n → v < n → Deepest parent (u ∷ v ∷ []) d → fields_of (cover_of u v) (the_label u) (the_label v) ≡ the_label d

  -- The relation of two labels is that of their nodes, with the difference of the depths and the steps from one node to the other.
  pub record Relates : Type 0 where
    pub relation : (u v : ℕ) → u < n → v < n → Stands parent u v (related_of u v).relation
    pub deeper : (u v : ℕ) → u < n → v < n → (related_of u v).deeper ≡ sub_ℕ (depth_of parent v) (depth_of parent u)
    pub steps :
        (u v d : ℕ) → u < n → v < n → Deepest parent (u ∷ v ∷ []) d
        → (related_of u v).steps + 2 * depth_of parent d ≡ depth_of parent u + depth_of parent v

  module _ (number : ℕ) where
    abbrev pub the_tag : ℕ → List ℕ
    the_tag v = tag parent n word number v

    -- the tag on the side that the cover names
    abbrev pub covering_tag : ℕ → ℕ → List ℕ
    covering_tag u v = side_of (cover_of u v).side (the_tag u) (the_tag v)

    -- The same by bytes. No query on two tags of one tree refuses; the cover is that of the labels; and to cut the tag that it names, which
    -- only want of room refuses, gives the deepest node's tag.
    pub record TagCovers : Type 0 where
      pub no_refusal : (u v : ℕ) → u < n → v < n → pair_fault (the_tag u) (the_tag v) ≡ None
      pub answers : (u v : ℕ) → u < n → v < n → cover_answer (the_tag u) (the_tag v) ≡ Ok (cover_of u v)
      pub cut_out : (u v d : ℕ) → u < n → v < n → Deepest parent (u ∷ v ∷ []) d → cut_tag (covering_tag u v) (cover_of u v).fields ≡ the_tag d
      pub cuts :
          (u v d room : ℕ) → u < n → v < n → Deepest parent (u ∷ v ∷ []) d → length (the_tag d) ≤ room
          → cut_answer (covering_tag u v) (cover_of u v).fields room ≡ Ok (length (the_tag d))

    -- the query on two tags answers the relation of their labels
    abbrev pub TagRelates : Type 0
    TagRelates = (u v : ℕ) → u < n → v < n → relate_answer (the_tag u) (the_tag v) ≡ Ok (related_of u v)

    -- Different nodes have different labels and different tags, and a tag cut at all its fields is itself.
    pub record Distinct : Type 0 where
      pub labels : (u v : ℕ) → u < n → v < n → the_label u ≡ the_label v → u ≡ v
      pub tags : (u v : ℕ) → u < n → v < n → the_tag u ≡ the_tag v → u ≡ v
      pub whole : (v : ℕ) → v < n → cut_tag (the_tag v) (count_of (the_tag v)) ≡ the_tag v

-- each for every tree, every lawful code and every tree number
abbrev pub Everywhere : ((ℕ → Option ℕ) → ℕ → (List ℕ → ℕ → Word) → Type 0) → Type 0
Everywhere P = (parent : ℕ → Option ℕ) (n : ℕ) (word : List ℕ → ℕ → Word) → Tree parent n → Lawful word → P parent n word

abbrev pub Numbered : ((ℕ → Option ℕ) → ℕ → (List ℕ → ℕ → Word) → ℕ → Type 0) → Type 0
Numbered P = Everywhere (λ parent n word. (number : ℕ) → 1 ≤ number → number ≤ most_number → P parent n word number)
