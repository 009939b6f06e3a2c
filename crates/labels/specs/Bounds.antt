-- How many fields and bits a label has, and that every tag reads as its label.
use Rattle.std.specs.Prelude.{◌≡◌, ℕ, ◌+◌, ◌-◌, ◌*◌, ◌^◌, ◌<◌, ◌≤◌, true, List, length, Ok, Option}
use Rattle.trees.specs.Tree.{Tree}
use Rattle.codes.specs.declared.word.Word.{Word}
use Rattle.codes.specs.Coding.{Lawful, Balanced}
use Rattle.codes.specs.Gilbert.{gilbert_moore}
use Rattle.formats.specs.Limits.{most_number}
use Rattle.formats.specs.Label.{body_in, Fine}
use Rattle.formats.specs.Models.{read_tag}
use Rattle.formats.specs.Theorems.{Bytes}
use Rattle.labels.specs.Sizes.{size, is_light}
use Rattle.labels.specs.Labels.{label}
use Rattle.labels.specs.Sheet.{tag}

-- t is the greatest number for which 2 ^ t ≤ x
pub record Greatest (t x : ℕ) : Type 0 where
  pub reached : 2 ^ t ≤ x
  pub not_more : x < 2 ^ (t + 1)

-- the fields and the bits of a label, at the largest
abbrev pub most_label_fields : ℕ
most_label_fields = 29

abbrev pub most_label_bits : ℕ
most_label_bits = 928

-- a light child's size is at most half of its parent's size less one
abbrev pub LightHalves : Type 0
LightHalves =
    (parent : ℕ → Option ℕ) (n : ℕ) → Tree parent n → (p c : ℕ) → is_light parent n p c ≡ true → 2 * size parent n c ≤ size parent n p - 1

-- a label has at most 2 * t - 1 fields, t being the greatest number with 2 ^ t ≤ n + 1; so at most 29
pub record FewFields (parent : ℕ → Option ℕ) (n : ℕ) (word : List ℕ → ℕ → Word) : Type 0 where
  pub by_size : (v t : ℕ) → v < n → Greatest t (n + 1) → length (label parent n word v) ≤ 2 * t - 1
  pub at_most : (v : ℕ) → v < n → length (label parent n word v) ≤ most_label_fields

abbrev pub FieldsBounded : Type 0
FieldsBounded = (parent : ℕ → Option ℕ) (n : ℕ) (word : List ℕ → ℕ → Word) → Tree parent n → FewFields parent n word

-- under a lawful code: few bits, a label that a tag can hold (its depths rise, up to 32,766), and a tag of bytes that reads as it
pub record ReadableTags (parent : ℕ → Option ℕ) (n : ℕ) (word : List ℕ → ℕ → Word) : Type 0 where
  pub few_bits : (v : ℕ) → v < n → length (body_in (label parent n word v)) ≤ most_label_bits
  pub fine : (v : ℕ) → v < n → Fine (label parent n word v)
  pub bytes : (number v : ℕ) → 1 ≤ number → number ≤ most_number → v < n → Bytes (tag parent n word number v)
  pub reads :
      (number v : ℕ) → 1 ≤ number → number ≤ most_number → v < n
      → read_tag (tag parent n word number v) ≡ Ok (number, label parent n word v)

abbrev pub TagsReadable : Type 0
TagsReadable = (parent : ℕ → Option ℕ) (n : ℕ) (word : List ℕ → ℕ → Word) → Tree parent n → Lawful word → ReadableTags parent n word

-- the bits of a body under a balanced code, at the largest
abbrev pub balanced_bits : ℕ → ℕ
balanced_bits b = 5 * b + 2

-- a body has at most that many bits, b being the greatest number with 2 ^ b ≤ n
abbrev pub ShortBodies : (List ℕ → ℕ → Word) → Type 0
ShortBodies word =
    (parent : ℕ → Option ℕ) (n : ℕ) → Tree parent n → (v b : ℕ) → v < n → Greatest b n → length (body_in (label parent n word v)) ≤ balanced_bits b

-- under every balanced code, and so under that of Gilbert and Moore
pub record BodiesShort : Type 0 where
  pub balanced : (word : List ℕ → ℕ → Word) → Balanced word → ShortBodies word
  pub gilbert : ShortBodies gilbert_moore
