-- The promises, of the sheet that is pressed.
use Rattle.std.proofs.Common.{◌≡◌, ℕ, ◌<◌, ◌≤◌, Bool, true, false, cond, ltb, List, length, take, drop, IfOk, None, Ok, Err, Option, Result, sym, refl, ap, ◌∙◌, subst, arith}
use Rattle.std.proofs.lemmas.List.{take_at}
use Rattle.trees.specs.Tree.{Tree}
use Rattle.trees.specs.declared.host.HostFault.{HostFault}
use Rattle.codes.specs.declared.word.Word.{Word}
use Rattle.codes.specs.Coding.{Lawful, Balanced}
use Rattle.codes.proofs.Shifts.{gilbert_balanced}
use Rattle.formats.specs.Limits.{most_number}
use Rattle.formats.specs.Layout.{count_of, tree_of}
use Rattle.formats.specs.Models.{label_of, outcome}
use Rattle.formats.specs.Faults.{tag_fault}
use Rattle.formats.specs.Cuts.{cut_tag, cut_fault, written_over}
use Rattle.formats.proofs.Read.{outcome_ok}
use Rattle.formats.proofs.Readable.{is_readable}
use Rattle.formats.proofs.CutTags.{cut_long, cut_fine}
use Rattle.labels.specs.Labels.{label}
use Rattle.labels.specs.Sheet.{tag, sheet}
use Rattle.labels.proofs.Shape.{readable_tags}
use Rattle.labels.proofs.Short.{bodies_short}
use Rattle.labels.proofs.Tags.{all_distinct}
use Rattle.sheets.specs.declared.press.PressRefusal.{PressRefusal}
use Rattle.sheets.specs.declared.press.PressRefusal.TheVariants.{TooManyFields, OutputTooShort}
use Rattle.sheets.specs.Pressing.{few_enough, measured, press_answer, press_output}
use Rattle.sheets.specs.Promises.{Promises}
use Rattle.sheets.proofs.Pages.{looked_up}

module _ (parent : ℕ → Option ℕ) (n : ℕ) (word : List ℕ → ℕ → Word) (number : ℕ) (T : Tree parent n) (L : Lawful word) (some : 1 ≤ number) (small : number ≤ most_number) where
  abbrev t : ℕ → List ℕ
  t v = tag parent n word number v

  sound : (v : ℕ) → v < n → tag_fault (tag parent n word number v) ≡ None
  sound v l = (outcome_ok (tag_fault (t v)) (tree_of (t v), label_of (t v)) (number, label parent n word v) ((readable_tags word T L).reads number v some small l)).0

  whole : (v : ℕ) → v < n → cut_tag (tag parent n word number v) (count_of (tag parent n word number v)) ≡ tag parent n word number v
  whole v l = (all_distinct parent n word T L number some small).whole v l

  no_fault : (v room : ℕ) → v < n → length (tag parent n word number v) ≤ room → cut_fault (tag parent n word number v) (count_of (tag parent n word number v)) room ≡ None
  no_fault v room l h =
      let bytes = (readable_tags word T L).bytes number v some small l in
      let odd = (is_readable (t v) (sound v l)).odd in
      let within : count_of (tag parent n word number v) ≤ count_of (tag parent n word number v) = omega arith in
      let long = cut_long (t v) (count_of (t v)) bytes (sound v l) odd within in
      let same = ap length (whole v l) in
      cut_fine (t v) (count_of (t v)) bytes (sound v l) odd within room (omega arith)

  pub promises : Promises parent n word number (sheet parent n word number)
  promises = record {
    distinct = (all_distinct parent n word T L number some small).tags;
    found = looked_up parent n word number;
    reads = λ v l. (readable_tags word T L).reads number v some small l;
    cut_answers = λ v room l h. let f = no_fault v room l h in let e = whole v l in λ i. outcome (f i) (length (e i));
    cut_writes = λ v out l h. let f = no_fault v (length out) l h in let e = whole v l in λ i. written_over (f i) (e i) out;
    balanced = λ b. bodies_short.balanced word b parent n T;
    gilbert = λ e. bodies_short.balanced word (subst Balanced (sym e) gilbert_balanced) parent n T;
  }

-- what is measured, if it is a sheet, is that of the definition
measured_is : (parent : ℕ → Option ℕ) (word : List ℕ → ℕ → Word) (number n room : ℕ) (bs : List ℕ) → measured parent word number n room ≡ Ok bs → bs ≡ sheet parent n word number
measured_is parent word number n room bs e = go (few_enough parent word number n) (ltb room (length (sheet parent n word number))) e
  where
    go : (a b : Bool) → cond {A = Result (List ℕ) PressRefusal} a (cond b (Err OutputTooShort) (Ok (sheet parent n word number))) (Err TooManyFields) ≡ Ok bs → bs ≡ sheet parent n word number
    go true true e = cc
    go true false e = cc
    go false b e = cc

made_of : {X Y : Type 0} (r : Result X Y) (P : X → Type 0) → ((k : X) → r ≡ Ok k → P k) → IfOk r P
made_of (Ok k) P h = h k refl
made_of (Err e) P h = tt

-- the answer is a length: then the output begins with the sheet
front : (m : Result (List ℕ) PressRefusal) (S out after : List ℕ) (k : ℕ) → ((bs : List ℕ) → m ≡ Ok bs → bs ≡ S) → press_answer m ≡ Ok k → after ≡ press_output m out → take k after ≡ S
front (Ok bs) S out after k is a w =
    let long : length bs ≡ k = cc in
    ap (take k) w ∙ take_at bs (drop (length bs) out) k long ∙ is bs refl
front (Err e) S out after k is a w = let z : ◌≡◌ {A = ℕ} 0 1 = cc in absurd (omega arith)

pub kept :
    (parent : ℕ → Option ℕ) (word : List ℕ → ℕ → Word) (number n room : ℕ) (verdict : Result ℕ HostFault) (out after : List ℕ) (r : Result ℕ PressRefusal)
    → verdict ≡ Ok n → Tree parent n → Lawful word → 1 ≤ number → number ≤ most_number
    → r ≡ press_answer (measured parent word number n room) → after ≡ press_output (measured parent word number n room) out
    → IfOk r (λ k. (m : ℕ) → verdict ≡ Ok m → Promises parent m word number (take k after))
kept parent word number n room verdict out after r v T L some small a w =
    made_of r (λ k. (m : ℕ) → verdict ≡ Ok m → Promises parent m word number (take k after))
    (λ k e m u.
    let f = front (measured parent word number n room) (sheet parent n word number) out after k (measured_is parent word number n room) (sym a ∙ e) w in
    let same : n ≡ m = cc in
    subst (λ (i : ℕ). Promises parent i word number (take k after)) same (subst (Promises parent n word number) (sym f) (promises parent n word number T L some small)))
