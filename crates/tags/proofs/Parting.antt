-- Field j of two tags, and the walk that comes to it.
use Rattle.std.proofs.Common.{◌≡◌, ℕ, ◌+◌, ◌<◌, ◌≤◌, min, Bool, true, false, List, Some, sym, refl, ap, ◌∙◌, ⊎_elim, arith}
use Rattle.std.proofs.lemmas.Bool.{cases_lt}
use Rattle.formats.specs.Label.{word_in}
use Rattle.formats.specs.Layout.{count_of}
use Rattle.formats.specs.Models.{field_at, label_of}
use Rattle.formats.specs.Pairs.{same_word, unlike, first_apart, nth_field, clash_at, clash}
use Rattle.formats.proofs.Places.{here, past, clash_past}
use Rattle.formats.proofs.Walks.{Walked, first_ended, second_ended, words_differ, depths_differ, go_on, ended_clash}
use Rattle.tags.specs.declared.field.FieldWord.{FieldWord}
use Rattle.tags.specs.declared.field.Field.{Field}
use Rattle.tags.specs.declared.field.Field.TheVariants.{Path, Branch}
use Rattle.tags.specs.Views.{held, bits_in, said}

pub word_said : (f : Field) → bits_in (held f) ≡ word_in (said f)
word_said (Path w depth) = refl
word_said (Branch w) = refl

module _ (a b : List ℕ) (j : ℕ) (w : Walked (label_of a) (label_of b) j) where
  -- one has ended
  pub over : min (count_of a) (count_of b) ≤ j → (j ≡ first_apart (label_of a) (label_of b)) × (clash (label_of a) (label_of b) ≡ false)
  over h = (apart, ended_clash (label_of a) (label_of b) j apart w ∙ sym (clash_past a b j h))
    where
      apart : j ≡ first_apart (label_of a) (label_of b)
      apart =
          ⊎_elim
          (λ l. second_ended (label_of a) (label_of b) j w (sym (past b j (omega arith))))
          (λ l. first_ended (label_of a) (label_of b) j w (sym (past a j l)))
          (cases_lt j (count_of a))

  -- both have it
  module _ (l : j < min (count_of a) (count_of b)) (x y : Field) (e : said x ≡ field_at a j) (f : said y ≡ field_at b j) where
    first : Some (said x) ≡ nth_field (label_of a) j
    first = ap Some e ∙ sym (here a j (omega arith))

    second : Some (said y) ≡ nth_field (label_of b) j
    second = ap Some f ∙ sym (here b j (omega arith))

    module _ (u v : FieldWord) (p : u ≡ held x) (q : v ≡ held y) (t : Bool) (s : t ≡ same_word (bits_in u) (bits_in v)) where
      same : same_word (word_in (said x)) (word_in (said y)) ≡ t
      same = let p' = ap bits_in p ∙ word_said x in let q' = ap bits_in q ∙ word_said y in sym (s ∙ (λ i. same_word (p' i) (q' i)))

      pub parted : t ≡ false → j ≡ first_apart (label_of a) (label_of b)
      parted n = words_differ (label_of a) (label_of b) j w (said x) (said y) first second (same ∙ n)

      pub clashing : t ≡ false → (c : Bool) → c ≡ clash_at (Some (said x)) (Some (said y)) → clash (label_of a) (label_of b) ≡ c
      clashing n c g = ended_clash (label_of a) (label_of b) j (parted n) w ∙ (λ i. clash_at (sym first i) (sym second i)) ∙ sym g

      pub two_depths : t ≡ true → unlike (said x) (said y) ≡ true → clash (label_of a) (label_of b) ≡ true
      two_depths n g = depths_differ (label_of a) (label_of b) j w (said x) (said y) first second (same ∙ n) g

      pub onward : t ≡ true → unlike (said x) (said y) ≡ false → Walked (label_of a) (label_of b) (j + 1)
      onward n g = go_on (label_of a) (label_of b) j w (said x) (said y) first second (same ∙ n) g
