-- Reading a parts list line by line.
use Rattle.std.proofs.Common.{◌≡◌, ℕ, zero, suc, ◌+◌, ◌<◌, ◌≤◌, Bool, true, false, cond, not, eqb, ltb, List, [], ◌∷◌, ◌++◌, length, drop, get_or, Some, None, Option, Bor, sym, refl, ap, ◌∙◌, append_assoc, append-nil, arith, length-drop}
use Rattle.std.proofs.lemmas.Iterator.{YieldsList}
use Rattle.std.proofs.lemmas.Iterator.Splits.{YieldsList-from_slice_split}
use Rattle.std.proofs.lemmas.List.{take_all, drop_all, at_drop_more}
use Rattle.std.proofs.lemmas.List.Elements.{All-from_get_or}
use Rattle.std.proofs.lemmas.List.Splits.{slice_split_none, slice_split_first}
use Rattle.std.proofs.lemmas.List.Sums.{prefix_len_passes}
use borrow.Author.Tests.{ltb-true, ltb-false}
use Rattle.std.specs.Fn.{CalledAt}
use Rattle.std.specs.List.{slice_split, position_or_len}
use Rattle.std.specs.Slice.Iter.{split_rest, split_done, split_callee, split_steps}
use Rattle.std.specs.declared.slice.Split.{Split}
use denote.Param.Members.{Mut}
use Rattle.texts.specs.Lines.{in_line, line_of, after_line, without_return}
use Rattle.texts.specs.PartsList.{level_of, in_front, line_then, levels_of, list_levels}

-- the byte ends a line
abbrev pub is_feed : ℕ → Bool
is_feed b = eqb b 10

-- the levels of lines
abbrev pub levels_in : List (List ℕ) → Option (List ℕ)
levels_in [] = Some []
levels_in (l ∷ ls) = line_then (without_return l) (levels_in ls)

-- what is read so far, and then the rest
abbrev pub after : List ℕ → Option (List ℕ) → Option (List ℕ)
after xs (Some ys) = Some (xs ++ ys)
after xs None = None

pub after_all : (xs : List ℕ) → after xs (Some []) ≡ Some xs
after_all xs = ap Some (append-nil xs)

pub after_none : (o : Option (List ℕ)) → after [] o ≡ o
after_none (Some ys) = refl
after_none None = refl

-- one level more
pub after_one : (xs : List ℕ) (l : ℕ) (o : Option (List ℕ)) → after (xs ++ (l ∷ [])) o ≡ after xs (in_front (Some l) o)
after_one xs l (Some ys) = ap Some (append_assoc xs (l ∷ []) ys)
after_one xs l None = refl

not_true : (b : Bool) → not b ≡ true → b ≡ false
not_true true e = absurd (cc)
not_true false e = refl

-- where no byte ends a line, the text is one line
whole : (k : ℕ) (bs : List ℕ) → length bs ≤ position_or_len is_feed bs → levels_of k [] ≡ Some [] → levels_of (suc k) bs ≡ levels_in (slice_split is_feed bs)
whole k bs h e =
    let p = position_or_len is_feed bs in
    let none = slice_split_none is_feed bs (All-from_get_or (λ x. is_feed x ≡ false) bs 0 (λ i l. not_true (is_feed (get_or bs i 0)) (prefix_len_passes in_line bs i 0 (omega (arith, h))))) in
    ap (λ l. line_then (without_return l) (levels_of k (drop (p + 1) bs))) (take_all p bs h)
    ∙ (ap (λ m. line_then (without_return bs) (levels_of k m)) (drop_all (p + 1) bs (omega (arith, h)))
    ∙ (ap (line_then (without_return bs)) e ∙ sym (ap levels_in none)))

-- the lines of a text are its parts between line feeds
chosen :
    (k : ℕ) (bs : List ℕ) (t : Bool) → ltb (position_or_len is_feed bs) (length bs) ≡ t → levels_of k [] ≡ Some []
    → levels_of k (after_line bs) ≡ levels_in (slice_split is_feed (after_line bs)) → levels_of (suc k) bs ≡ levels_in (slice_split is_feed bs)
chosen k bs true t e m = ap (line_then (without_return (line_of bs))) m ∙ sym (ap levels_in (slice_split_first is_feed bs 0 (ltb-true _ _ t)))
chosen k bs false t e m = whole k bs (ltb-false _ _ t) e

in_parts : (k : ℕ) (bs : List ℕ) → length bs ≤ k → levels_of k bs ≡ levels_in (slice_split is_feed bs)
in_parts zero [] h = refl
in_parts zero (b ∷ bs) h = absurd (omega arith)
in_parts (suc k) bs h =
    chosen k bs (ltb (position_or_len is_feed bs) (length bs)) refl (in_parts k [] (omega arith)) (in_parts k (after_line bs) (simp length-drop (omega (arith, h))))

pub begins : (xs bs : List ℕ) → xs ≡ [] → after xs (levels_in (slice_split is_feed bs)) ≡ list_levels bs
begins xs bs e = ap (λ xs. after xs (levels_in (slice_split is_feed bs))) e ∙ (after_none (levels_in (slice_split is_feed bs)) ∙ sym (in_parts (length bs) bs (omega arith)))

-- what a split of the text yields
pub yields :
    {F : Type 0} (g : Mut F (Bor ℕ × Unit {0}) Bool) {s t : Split ℕ F} {f : F} (bs : List ℕ) → t ≡ s → split_rest s ≡ bs → split_done s ≡ false → split_callee s ≡ f
    → ((x : ℕ) (b : Bool) (q : F) → CalledAt g f x b q → (q ≡ f) × (b ≡ is_feed x)) → YieldsList (split_steps g) (λ x. x.now) t (slice_split is_feed bs)
yields g bs i r d h k = YieldsList-from_slice_split g is_feed bs (ap split_rest i ∙ r) (ap split_done i ∙ d) (ap split_callee i ∙ h) k

-- One turn: the line l, which is the one at n, without its return.
module _ (ls : List (List ℕ)) (n : ℕ) (l line : List ℕ) (at : (n < length ls) × (l ≡ get_or ls n l)) (is : line ≡ without_return l) where
  turn : levels_in (drop n ls) ≡ line_then line (levels_in (drop (n + 1) ls))
  turn =
      at_drop_more levels_in ls n l at.0
      ∙ (ap (λ x. line_then (without_return x) (levels_in (drop (n + 1) ls))) (sym at.1)
      ∙ ap (λ x. line_then x (levels_in (drop (n + 1) ls))) (sym is))

  pub skipped : eqb (length line) 0 ≡ true → levels_in (drop n ls) ≡ levels_in (drop (n + 1) ls)
  skipped e = turn ∙ ap (λ t. cond t (levels_in (drop (n + 1) ls)) (in_front (level_of line) (levels_in (drop (n + 1) ls)))) e

  pub taken : (o : Option ℕ) → eqb (length line) 0 ≡ false → o ≡ level_of line → levels_in (drop n ls) ≡ in_front o (levels_in (drop (n + 1) ls))
  taken o e f =
      turn
      ∙ (ap (λ t. cond t (levels_in (drop (n + 1) ls)) (in_front (level_of line) (levels_in (drop (n + 1) ls)))) e
      ∙ ap (λ p. in_front p (levels_in (drop (n + 1) ls))) (sym f))
