-- What two tags side by side answer.
use Rattle.std.proofs.Common.{◌≡◌, ℕ, ◌+◌, ◌-◌, ◌*◌, ◌/◌, ◌%◌, ◌≤◌, Bool, cond, ◌&&◌, List, Some, Option, sym, refl, ap, ◌∙◌, subst, arith}
use lib.IntN.{sub_ℕ}
use Rattle.std.proofs.lemmas.Bool.{cond-true, lt-ltb}
use Rattle.formats.specs.declared.answers.Difference.TheVariants.{At}
use Rattle.formats.specs.declared.answers.Side.{Side}
use Rattle.formats.specs.declared.answers.Side.TheVariants.{First, Second}
use Rattle.formats.specs.declared.answers.Part.{Part}
use Rattle.formats.specs.declared.answers.Related.{Related}
use Rattle.formats.specs.Label.{Field as Said, Label, path}
use Rattle.formats.specs.Layout.{count_of, depth_at}
use Rattle.formats.specs.Models.{label_of}
use Rattle.formats.specs.Pairs.{lead, zero_first, nth_field, difference_at, difference, cover_at, cover, side_of, ended, relation_by, related}
use Rattle.formats.specs.Theorems.{Shared, Exact}
use Rattle.formats.proofs.Answering.{Paired, difference_here, cover_here, shared_here, side_within, steps_fit, related_here, exact_here}
use Rattle.tags.specs.declared.field.FieldWord.{FieldWord}
use Rattle.tags.specs.declared.field.Field.{Field}
use Rattle.tags.specs.declared.tag.Tag.{Tag}
use Rattle.tags.specs.declared.pair.Pair.{Pair}
use Rattle.tags.specs.Views.{raw, held, bits_in, said, depth_answer, last_answer}
use Rattle.tags.proofs.Parting.{word_said}

module _ (p : Pair) where
  pub paired : Paired (raw p.first) (raw p.second) p.at
  paired = record {
    first = p.first.readable;
    second = p.second.readable;
    fine = p.fine;
    clear = p.clear;
    at = p.apart;
  }

  module _ (u v : Option Said) (e : u ≡ nth_field (label_of (raw p.first)) p.at) (f : v ≡ nth_field (label_of (raw p.second)) p.at) where
    pub difference_by : difference_at p.at u v ≡ difference (label_of (raw p.first)) (label_of (raw p.second))
    difference_by = difference_here (raw p.first) (raw p.second) p.at paired (difference_at p.at u v) (λ t. difference_at p.at (e t) (f t))

    pub cover_by : cover_at (count_of (raw p.first)) (count_of (raw p.second)) p.at u v ≡ cover (label_of (raw p.first)) (label_of (raw p.second))
    cover_by =
        cover_here (raw p.first) (raw p.second) p.at paired (cover_at (count_of (raw p.first)) (count_of (raw p.second)) p.at u v)
        (λ t. cover_at (count_of (raw p.first)) (count_of (raw p.second)) p.at (e t) (f t))

  pub difference_both : (x y : Field) → Some (said x) ≡ nth_field (label_of (raw p.first)) p.at → Some (said y) ≡ nth_field (label_of (raw p.second)) p.at → (u v : FieldWord) → u ≡ held x → v ≡ held y → (n : ℕ) → n ≡ lead (bits_in u) (bits_in v) → At p.at n ≡ difference (label_of (raw p.first)) (label_of (raw p.second))
  difference_both x y e f u v g h n k =
      let g' = ap bits_in g ∙ word_said x in
      let h' = ap bits_in h ∙ word_said y in
      ap (At p.at) (k ∙ (λ t. lead (g' t) (h' t))) ∙ difference_by (Some (said x)) (Some (said y)) e f

  pub cover_both : (w : FieldWord) (d : ℕ) (y : Field) → Some (path (bits_in w) d) ≡ nth_field (label_of (raw p.first)) p.at → Some (said y) ≡ nth_field (label_of (raw p.second)) p.at → (v : FieldWord) → v ≡ held y → (t : Bool) → t ≡ zero_first (bits_in w) (bits_in v) → cond {A = Part} t (record { side = First; fields = p.at + 1 }) (record { side = Second; fields = p.at + 1 }) ≡ cover (label_of (raw p.first)) (label_of (raw p.second))
  cover_both w d y e f v h t k =
      let h' = ap bits_in h ∙ word_said y in
      ap (λ b. cond {A = Part} b (record { side = First; fields = p.at + 1 }) (record { side = Second; fields = p.at + 1 })) (k ∙ (λ i. zero_first (bits_in w) (h' i)))
      ∙ cover_by (Some (path (bits_in w) d)) (Some (said y)) e f

  -- the cover
  module _ (q : Part) (e : q ≡ cover (label_of (raw p.first)) (label_of (raw p.second))) where
    e' : q ≡ cover_at (count_of (raw p.first)) (count_of (raw p.second)) p.at (nth_field (label_of (raw p.first)) p.at) (nth_field (label_of (raw p.second)) p.at)
    e' = e ∙ sym (cover_by _ _ refl refl)

    pub shared_by : Shared (label_of (raw p.first)) (label_of (raw p.second)) q
    shared_by = shared_here (raw p.first) (raw p.second) p.at paired q e'

    -- the depth that it ends with
    abbrev pub depth_by : ℕ
    depth_by = depth_at (side_of q.side (raw p.first) (raw p.second)) (q.fields / 2)

    pub depth_there : (t : Tag) → t ≡ side_of q.side p.first p.second → depth_answer (raw t) (q.fields / 2) ≡ Some depth_by
    depth_there t f = ap (λ s. depth_answer (raw s) (q.fields / 2)) f ∙ go q.side q.fields (side_within (raw p.first) (raw p.second) p.at paired q e') shared_by.odd
      where
        there : (bs : List ℕ) (n : ℕ) → n ≤ count_of bs → n % 2 ≡ 1 → depth_answer bs (n / 2) ≡ Some (depth_at bs (n / 2))
        there bs n l o = cond-true _ _ _ (lt-ltb (n / 2) ((count_of bs + 1) / 2) (omega arith))

        go : (s : Side) (n : ℕ) → n ≤ count_of (side_of s (raw p.first) (raw p.second)) → n % 2 ≡ 1 → depth_answer (raw (side_of s p.first p.second)) (n / 2) ≡ Some (depth_at (side_of s (raw p.first) (raw p.second)) (n / 2))
        go First n l o = there (raw p.first) n l o
        go Second n l o = there (raw p.second) n l o

    pub depth_fits : 2 * depth_by ≤ last_answer (raw p.first) + last_answer (raw p.second)
    depth_fits = steps_fit (raw p.first) (raw p.second) p.at paired q e'

    module _ (r : Related) (u : r.relation ≡ relation_by (ended (nth_field (label_of (raw p.first)) p.at) && ended (nth_field (label_of (raw p.second)) p.at)) q (count_of (raw p.first)) (count_of (raw p.second))) (v : r.deeper ≡ sub_ℕ (last_answer (raw p.second)) (last_answer (raw p.first))) (w : r.steps ≡ last_answer (raw p.first) + last_answer (raw p.second) - 2 * depth_by) where
      pub related_by : r ≡ related (label_of (raw p.first)) (label_of (raw p.second))
      related_by = related_here (raw p.first) (raw p.second) p.at paired q e' r u v w

      pub exact_by : Exact (label_of (raw p.first)) (label_of (raw p.second)) r
      exact_by = exact_here (raw p.first) (raw p.second) p.at paired q e' r u v w

-- what holds of the labels of a pair holds of those of the bytes that it was read from
pub at_bytes : (F : Label → Label → Type 0) (p : Pair) (a b : List ℕ) → (raw p.first ≡ a) × (raw p.second ≡ b) → F (label_of (raw p.first)) (label_of (raw p.second)) → F (label_of a) (label_of b)
at_bytes F p a b e h = subst (λ z. F (label_of z) (label_of b)) e.0 (subst (λ z. F (label_of (raw p.first)) (label_of z)) e.1 h)
