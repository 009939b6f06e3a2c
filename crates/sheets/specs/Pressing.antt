-- What the press answers and writes, for every host, code, tree number, work memory and output.
use Rattle.std.specs.Prelude.{ℕ, ◌*◌, Bool, cond, List, ◌++◌, length, drop, Ok, Err, Option, Result, ◌==◌, nat_le, nat_lt}
use Rattle.trees.specs.declared.host.HostFault.{HostFault}
use Rattle.codes.specs.declared.word.Word.{Word}
use Rattle.formats.specs.Limits.{most_fields}
use Rattle.formats.specs.Layout.{all_below}
use Rattle.labels.specs.Labels.{label}
use Rattle.labels.specs.Sheet.{sheet}
use Rattle.sheets.specs.declared.press.PressRefusal.{PressRefusal}
use Rattle.sheets.specs.declared.press.PressRefusal.TheVariants.{NumberZero, NoTree, WorkTooShort, TooManyFields, OutputTooShort}

-- how many rows of work memory there are, each with a number for each node
abbrev pub row_count : ℕ
row_count = 12

module _ (parent : ℕ → Option ℕ) (word : List ℕ → ℕ → Word) (number : ℕ) where
  -- no label of a tree of n nodes has more fields than a tag can hold
  abbrev pub few_enough : ℕ → Bool
  few_enough n = all_below (λ v. nat_le (length (label parent n word v)) most_fields) n

  -- the sheet of a tree of n nodes, where its labels can be held and there is room for it
  abbrev pub measured : ℕ → ℕ → Result (List ℕ) PressRefusal
  measured n room =
      cond (few_enough n)
      (cond (nat_lt room (length (sheet parent n word number))) (Err OutputTooShort) (Ok (sheet parent n word number)))
      (Err TooManyFields)

  -- the same where the work memory has enough numbers
  abbrev pub worked : ℕ → ℕ → ℕ → Result (List ℕ) PressRefusal
  worked n work room = cond (nat_lt work (row_count * n)) (Err WorkTooShort) (measured n room)

  -- the same where the host has a tree
  abbrev pub judged : Result ℕ HostFault → ℕ → ℕ → Result (List ℕ) PressRefusal
  judged (Err fault) work room = Err (NoTree fault)
  judged (Ok n) work room = worked n work room

  -- the sheet, or the first refusal that applies
  abbrev pub pressed : Result ℕ HostFault → ℕ → ℕ → Result (List ℕ) PressRefusal
  pressed verdict work room = cond (number == 0) (Err NumberZero) (judged verdict work room)

-- the answer: the sheet's length
abbrev pub press_answer : Result (List ℕ) PressRefusal → Result ℕ PressRefusal
press_answer (Ok bs) = Ok (length bs)
press_answer (Err refusal) = Err refusal

-- the output after: the sheet, and then what stood there before; under a refusal as it was
abbrev pub press_output : Result (List ℕ) PressRefusal → List ℕ → List ℕ
press_output (Ok bs) out = bs ++ drop (length bs) out
press_output (Err refusal) out = out
