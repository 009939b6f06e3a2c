-- What is promised of a pressed sheet.
use Rattle.std.specs.Prelude.{◌≡◌, ℕ, ◌+◌, ◌*◌, ◌<◌, ◌≤◌, List, ◌++◌, length, drop, Ok, Option}
use Rattle.codes.specs.declared.word.Word.{Word}
use Rattle.codes.specs.Coding.{Balanced}
use Rattle.codes.specs.Gilbert.{gilbert_moore}
use Rattle.formats.specs.Label.{body_in}
use Rattle.formats.specs.Layout.{count_of}
use Rattle.formats.specs.Models.{read_tag}
use Rattle.formats.specs.Cuts.{cut_answer, cut_output}
use Rattle.labels.specs.Labels.{label}
use Rattle.labels.specs.Sheet.{tag}
use Rattle.labels.specs.Bounds.{Greatest}
use Rattle.sheets.specs.LookingUp.{look_up_answer}

module _ (parent : ℕ → Option ℕ) (n : ℕ) (word : List ℕ → ℕ → Word) (number : ℕ) where
  -- every body has at most 5 * b + 2 bits, b being the greatest number with 2 ^ b ≤ n
  abbrev pub ShortTags : Type 0
  ShortTags = (v b : ℕ) → v < n → Greatest b n → length (body_in (label parent n word v)) ≤ 5 * b + 2

  -- of the bytes bs, pressed from a tree of n nodes
  pub record Promises (bs : List ℕ) : Type 0 where
    -- no two nodes have equal tags
    pub distinct : (u v : ℕ) → u < n → v < n → tag parent n word number u ≡ tag parent n word number v → u ≡ v
    -- look-up of a node gives its tag
    pub found : (v : ℕ) → v < n → look_up_answer bs v ≡ Ok (tag parent n word number v)
    -- a tag reads as the tree number and the node's label, depths and all
    pub reads : (v : ℕ) → v < n → read_tag (tag parent n word number v) ≡ Ok (number, label parent n word v)
    -- a tag, cut at all its fields into an output with room for it, is written back
    pub cut_answers :
        (v room : ℕ) → v < n → length (tag parent n word number v) ≤ room
        → cut_answer (tag parent n word number v) (count_of (tag parent n word number v)) room ≡ Ok (length (tag parent n word number v))
    pub cut_writes :
        (v : ℕ) (out : List ℕ) → v < n → length (tag parent n word number v) ≤ length out
        → cut_output (tag parent n word number v) (count_of (tag parent n word number v)) out ≡ tag parent n word number v ++ drop (length (tag parent n word number v)) out
    -- bodies are short under every balanced code, and so under that of Gilbert and Moore
    pub balanced : Balanced word → ShortTags
    pub gilbert : word ≡ gilbert_moore → ShortTags
