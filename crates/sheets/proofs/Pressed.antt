-- The answers of the press, test by test.
use Rattle.std.proofs.Common.{◌≡◌, ℕ, ◌≤◌, true, List, ◌++◌, length, drop, Ok, Option, refl, ap, ◌∙◌, arith}
use Rattle.std.proofs.lemmas.Bool.{le-ltb}
use Rattle.codes.specs.declared.word.Word.{Word}
use Rattle.labels.specs.Sheet.{sheet}
use Rattle.writing.specs.Writes.{Wrote, put}
use Rattle.sheets.specs.Pressing.{few_enough, measured}

-- a write at the front
pub at_front : {bs xs ys : List ℕ} → Wrote 0 bs xs ys → ys ≡ bs ++ drop (length bs) xs
unfolding put
at_front {bs} {xs} {ys} w = w.is ∙ ap (λ (k : ℕ). bs ++ drop k xs) (omega arith)

module _ (parent : ℕ → Option ℕ) (word : List ℕ → ℕ → Word) (number n room : ℕ) where
  pub roomy : true ≡ few_enough parent word number n → length (sheet parent n word number) ≤ room → measured parent word number n room ≡ Ok (sheet parent n word number)
  roomy e l = rw (← e, le-ltb room (length (sheet parent n word number)) l) refl
