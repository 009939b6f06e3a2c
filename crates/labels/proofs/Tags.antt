-- Two tags of one tree, by their bytes.
use Rattle.std.proofs.Common.{◌≡◌, ℕ, ◌%◌, ◌<◌, ◌≤◌, true, eqb, List, [], ◌∷◌, length, take, Some, None, Ok, Option, sym, refl, ap, ◌∙◌, arith}
use Rattle.std.proofs.lemmas.List.FromFn.{length-map-range_with_len}
use Rattle.std.proofs.lemmas.List.{take_all}
use Rattle.std.proofs.lemmas.Bool.{eq-eqb}
use Rattle.trees.specs.Tree.{Tree}
use Rattle.trees.specs.Deepest.{Deepest, meet_of}
use Rattle.trees.proofs.Meet.{two}
use Rattle.codes.specs.declared.word.Word.{Word}
use Rattle.codes.specs.Coding.{Lawful}
use Rattle.formats.specs.declared.answers.Side.{Side}
use Rattle.formats.specs.declared.answers.Side.TheVariants.{First, Second}
use Rattle.formats.specs.declared.answers.Part.{Part}
use Rattle.formats.specs.declared.fault.TagFault.{TagFault}
use Rattle.formats.specs.Limits.{most_number}
use Rattle.formats.specs.Label.{Label}
use Rattle.formats.specs.Layout.{tree_of, count_of}
use Rattle.formats.specs.Faults.{tag_fault}
use Rattle.formats.specs.Models.{tag_bytes, field_at, label_of, outcome, read_tag}
use Rattle.formats.specs.Cuts.{cut_tag, cut_fault, cut_answer}
use Rattle.formats.specs.Pairs.{cover, side_of, fields_of, related}
use Rattle.formats.specs.Queries.{pair_fault, on_labels}
use Rattle.formats.proofs.Covering.{shared}
use Rattle.formats.proofs.CutTags.{cut_long, cut_fine}
use Rattle.labels.specs.Labels.{label}
use Rattle.labels.specs.Sheet.{tag}
use Rattle.labels.specs.Covers.{cover_of, covering_tag, TagCovers, TagRelates, Distinct, Numbered}
use Rattle.labels.specs.Groups.{cut_part, cover_tags}
use Rattle.labels.proofs.Covering.{find, find_any, labels_apart}
use Rattle.labels.proofs.Shape.{fine, readable_tags}

-- what bytes are that read as a number and a label
pub record Taken (bs : List ℕ) (number : ℕ) (l : Label) : Type 0 where
  pub sound : tag_fault bs ≡ None
  pub tree : tree_of bs ≡ number
  pub fields : label_of bs ≡ l

pub taken : (bs : List ℕ) (number : ℕ) (l : Label) → read_tag bs ≡ Ok (number, l) → Taken bs number l
taken bs number l e = go (tag_fault bs) refl e
  where
    go : (o : Option TagFault) → tag_fault bs ≡ o → outcome {X = ℕ × Label} o (tree_of bs, label_of bs) ≡ Ok (number, l) → Taken bs number l
    go None f e =
        let p : ◌≡◌ {A = ℕ × Label} (tree_of bs, label_of bs) (number, l) = cc in
        record { sound = f; tree = ap (λ x. x.0) p; fields = ap (λ x. x.1) p }
    go (Some x) f e = let z : ◌≡◌ {A = ℕ} 0 1 = cc in absurd (omega arith)

module _ {parent : ℕ → Option ℕ} {n : ℕ} (word : List ℕ → ℕ → Word) (T : Tree parent n) (L : Lawful word) (number : ℕ) (some : 1 ≤ number) (small : number ≤ most_number) where
  abbrev label_at : ℕ → Label
  label_at v = label parent n word v

  abbrev tag_of : ℕ → List ℕ
  tag_of v = tag parent n word number v

  -- the cover of two labels, and the tag that it names
  abbrev part_of : ℕ → ℕ → Part
  part_of u v = cover_of parent n word u v

  abbrev cover_side : ℕ → ℕ → List ℕ
  cover_side u v = covering_tag parent n word number u v

  pub known : (v : ℕ) → v < n → Taken (tag_of v) number (label_at v)
  known v l = taken (tag_of v) number (label_at v) ((readable_tags word T L).reads number v some small l)

  pub counted : (v : ℕ) → v < n → count_of (tag_of v) ≡ length (label_at v)
  counted v l =
      sym (length-map-range_with_len (field_at (tag_of v)) 0 (count_of (tag_of v))) ∙ ap length (known v l).fields

  pub no_refusal : (u v : ℕ) → u < n → v < n → pair_fault (tag_of u) (tag_of v) ≡ None
  no_refusal u v k l =
      let a = known u k in
      let b = known v l in
      let c = (find_any word T L u v k l).meets.calm in
      let e : eqb number number ≡ true = eq-eqb number number refl in
      rw (a.sound, b.sound, a.tree, b.tree, a.fields, b.fields, c, e) refl

  -- a query on the tags of two nodes is that on their labels
  pub asked :
      {X : Type 0} (f : Label → Label → X) (u v : ℕ) → u < n → v < n
      → on_labels f (tag_of u) (tag_of v) ≡ Ok (f (label_at u) (label_at v))
  asked f u v k l = let r = no_refusal u v k l in let a = (known u k).fields in let b = (known v l).fields in λ t. outcome (r t) (f (a t) (b t))

  -- a tag cut at some fields
  cut_at : (v m : ℕ) → v < n → cut_tag (tag_of v) m ≡ tag_bytes number (take m (label_at v))
  cut_at v m l = let a = known v l in rw (a.tree, a.fields) refl

  pub cut_out :
      (u v d : ℕ) → u < n → v < n → Deepest parent (u ∷ v ∷ []) d
      → cut_tag (cover_side u v) (part_of u v).fields ≡ tag_of d
  cut_out u v d k l D = go (part_of u v).side ∙ whole
    where
      go :
          (s : Side)
          → cut_tag (side_of s (tag_of u) (tag_of v)) (part_of u v).fields
          ≡ tag_bytes number (take (part_of u v).fields (side_of s (label_at u) (label_at v)))
      go First = cut_at u (part_of u v).fields k
      go Second = cut_at v (part_of u v).fields l

      whole : tag_bytes number (fields_of (part_of u v) (label_at u) (label_at v)) ≡ tag_of d
      whole = unfold tag in ap (tag_bytes number) (find word T L u v d D k l).meets.part

  -- only want of room refuses a cut at an odd number of fields
  one_side : (v m room : ℕ) → v < n → m % 2 ≡ 1 → m ≤ length (label_at v) → length (cut_tag (tag_of v) m) ≤ room
      → cut_fault (tag_of v) m room ≡ None
  one_side v m room l odd within fits =
      let c = counted v l in
      let small_bytes = (readable_tags word T L).bytes number v some small l in
      let w : m ≤ count_of (tag_of v) = omega arith in
      let e = cut_long (tag_of v) m small_bytes (known v l).sound odd w in
      cut_fine (tag_of v) m small_bytes (known v l).sound odd w room (omega arith)

  uncut : (s : Side) (u v m room : ℕ) → u < n → v < n → m % 2 ≡ 1 → m ≤ length (side_of s (label_at u) (label_at v))
      → length (cut_tag (side_of s (tag_of u) (tag_of v)) m) ≤ room
      → cut_fault (side_of s (tag_of u) (tag_of v)) m room ≡ None
  uncut First u v m room k l odd within fits = one_side u m room k odd within fits
  uncut Second u v m room k l odd within fits = one_side v m room l odd within fits

  pub cuts :
      (u v d room : ℕ) → u < n → v < n → Deepest parent (u ∷ v ∷ []) d → length (tag_of d) ≤ room
      → cut_answer (cover_side u v) (part_of u v).fields room ≡ Ok (length (tag_of d))
  cuts u v d room k l D h =
      let c = (find_any word T L u v k l).meets.calm in
      let s = shared 0 (label_at u) (label_at v) (fine word T L u k).chain (fine word T L v l).chain c in
      let e = cut_out u v d k l D in
      let f = uncut (part_of u v).side u v (part_of u v).fields room k l s.odd s.within (omega (arith, ap length e)) in
      λ t. outcome (f t) (length (e t))

  tag_covers : TagCovers parent n word number
  tag_covers = record { no_refusal = no_refusal; answers = asked cover; cut_out = cut_out; cuts = cuts }

  all_fields : (v m : ℕ) → length (label_at v) ≤ m → tag_bytes number (take m (label_at v)) ≡ tag_of v
  unfolding tag
  all_fields v m h = ap (tag_bytes number) (take_all m (label_at v) h)

  distinct : Distinct parent n word number
  distinct = record { labels = labels_apart word T L; tags = tags; whole = whole }
    where
      tags : (u v : ℕ) → u < n → v < n → tag_of u ≡ tag_of v → u ≡ v
      tags u v k l e = labels_apart word T L u v k l (sym (known u k).fields ∙ ap label_of e ∙ (known v l).fields)

      whole : (v : ℕ) → v < n → cut_tag (tag_of v) (count_of (tag_of v)) ≡ tag_of v
      whole v l =
          let c = counted v l in
          cut_at v (count_of (tag_of v)) l ∙ all_fields v (count_of (tag_of v)) (omega arith)

  -- the tag of the deepest node at or above two
  pub joined_tags : (x y : ℕ) → x < n → y < n → cover_tags (Ok (tag_of x)) (Ok (tag_of y)) ≡ Ok (tag_of (meet_of parent x y))
  joined_tags x y k l =
      ap (cut_part (tag_of x) (tag_of y)) (asked cover x y k l)
      ∙ ap (λ bs. Ok bs) (cut_out x y (meet_of parent x y) k l (two T y l x k))

pub all_tag_covers : Numbered TagCovers
all_tag_covers parent n word T L number some small = tag_covers word T L number some small

pub all_tag_relates : Numbered TagRelates
all_tag_relates parent n word T L number some small = asked word T L number some small related

pub all_distinct : Numbered Distinct
all_distinct parent n word T L number some small = distinct word T L number some small
