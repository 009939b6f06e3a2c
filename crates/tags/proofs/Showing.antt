-- What a field shows of a tag is the field of its label.
use Rattle.std.proofs.Common.{◌≡◌, ℕ, ◌-◌, ◌/◌, ◌%◌, ◌<◌, Bool, true, false, cond, eqb, List, Some, None, ap, ◌∙◌, arith}
use Rattle.std.proofs.lemmas.Bool.Decides.{nat_tests}
use Rattle.std.proofs.lemmas.Bool.{cond-true}
use Rattle.formats.specs.Label.{path, branch, Field as Said}
use Rattle.formats.specs.Faults.{tag_fault}
use Rattle.formats.specs.Layout.{count_of, begin_at, end_at, depth_at}
use Rattle.formats.specs.Models.{field_at}
use Rattle.formats.specs.Words.{bits_at, word_at}
use Rattle.formats.proofs.Readable.{is_readable}
use Rattle.formats.proofs.Spans.{span}
use Rattle.formats.proofs.Bits.{word_touched}
use Rattle.tags.specs.Views.{View, path_view, branch_view, touched, view_at, has_field, field_answer}

-- what a view says
abbrev says : View → Said
says (path_view xs first len depth) = path (bits_at xs (first % 8) len) depth
says (branch_view xs first len) = branch (bits_at xs (first % 8) len)

module _ (bs : List ℕ) (f : tag_fault bs ≡ None) (i : ℕ) where
  says_at : i < count_of bs → says (view_at bs i) ≡ field_at bs i
  says_at l = go (eqb (i % 2) 0)
    where
      go : (t : Bool) → says (cond t (path_view (touched bs i) (begin_at bs i) (end_at bs i - begin_at bs i) (depth_at bs (i / 2))) (branch_view (touched bs i) (begin_at bs i) (end_at bs i - begin_at bs i))) ≡ cond t (path (word_at bs i) (depth_at bs (i / 2))) (branch (word_at bs i))
      go true = ap (λ w. path w (depth_at bs (i / 2))) (word_touched bs i (span bs (is_readable bs f) i l))
      go false = ap branch (word_touched bs i (span bs (is_readable bs f) i l))

  has_all : i < count_of bs → has_field bs i ≡ true
  has_all l = let s = span bs (is_readable bs f) i l in let r = (is_readable bs f).size in grind (arith, nat_tests)

  pub shown_all : i < count_of bs → field_answer bs i ≡ Some (view_at bs i)
  shown_all l = cond-true _ _ _ (has_all l)

  pub view_says : i < count_of bs → (v : View) → v ≡ view_at bs i → says v ≡ field_at bs i
  view_says l v e = ap says e ∙ says_at l
