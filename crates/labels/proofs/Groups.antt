-- Several nodes: the deepest one at or above all of them, and the cover of their tags in any grouping.
use Rattle.std.proofs.Common.{◌≡◌, ℕ, ◌<◌, ◌≤◌, List, [], ◌∷◌, ◌++◌, None, Ok, Option, refl, ap, ◌∙◌}
use Rattle.std.specs.List.{AllByRecursion}
use Rattle.trees.specs.Tree.{Tree}
use Rattle.trees.specs.Above.{AtOrAbove, here}
use Rattle.trees.specs.Deepest.{AboveAll, Deepest, meet_of, meet_all}
use Rattle.trees.specs.Climbing.{first_missing}
use Rattle.trees.proofs.Answering.{present}
use Rattle.trees.proofs.Above.{through}
use Rattle.trees.proofs.Meet.{two, one, node, several}
use Rattle.codes.specs.declared.word.Word.{Word}
use Rattle.codes.specs.Coding.{Lawful}
use Rattle.formats.specs.Limits.{most_number}
use Rattle.labels.specs.Sheet.{tag}
use Rattle.labels.specs.Covers.{Numbered}
use Rattle.labels.specs.Groups.{Group, one as lone, joins, members, group_tag, GroupsCover}
use Rattle.labels.proofs.Tags.{joined_tags}

module _ {parent : ℕ → Option ℕ} {n : ℕ} (word : List ℕ → ℕ → Word) (T : Tree parent n) (L : Lawful word) (number : ℕ) (some : 1 ≤ number) (small : number ≤ most_number) where
  abbrev tag_of : ℕ → List ℕ
  tag_of v = tag parent n word number v

  none_missing : (vs : List ℕ) → AllByRecursion (λ x. x < n) vs → first_missing n vs ≡ None
  none_missing [] h = refl
  none_missing (v ∷ vs) h = present n v vs h.0 ∙ none_missing vs h.1

  -- at or above all of two lists
  split_above : (e : ℕ) (vs ws : List ℕ) → AboveAll parent e (vs ++ ws) → AboveAll parent e vs × AboveAll parent e ws
  split_above e [] ws h = (tt, h)
  split_above e (v ∷ vs) ws h = let r = split_above e vs ws h.1 in ((h.0, r.0), r.1)

  join_above : (e : ℕ) (vs ws : List ℕ) → AboveAll parent e vs → AboveAll parent e ws → AboveAll parent e (vs ++ ws)
  join_above e [] ws h k = k
  join_above e (v ∷ vs) ws h k = (h.0, join_above e vs ws h.1 k)

  higher : (a d : ℕ) (vs : List ℕ) → AtOrAbove parent a d → AboveAll parent d vs → AboveAll parent a vs
  higher a d [] h k = tt
  higher a d (v ∷ vs) h k = (through h k.0, higher a d vs h k.1)

  -- the deepest node of two lists is that of their deepest nodes
  pub join_deepest :
      (vs ws : List ℕ) (x y d : ℕ) → Deepest parent vs x → Deepest parent ws y → Deepest parent (x ∷ y ∷ []) d → Deepest parent (vs ++ ws) d
  join_deepest vs ws x y d X Y D =
      record {
        above = join_above d vs ws (higher d x vs D.above.0 X.above) (higher d y ws D.above.1.0 Y.above);
        lowest = λ e h. let s = split_above e vs ws h in D.lowest e (X.lowest e s.0, (Y.lowest e s.1, tt));
      }

  split_all : (vs ws : List ℕ) → AllByRecursion (λ x. x < n) (vs ++ ws) → AllByRecursion (λ x. x < n) vs × AllByRecursion (λ x. x < n) ws
  split_all [] ws h = (tt, h)
  split_all (v ∷ vs) ws h = let r = split_all vs ws h.1 in ((h.0, r.0), r.1)

  -- the node that a group comes to
  record Comes (g : Group) : Type 0 where
    at : ℕ
    inside : at < n
    deepest : Deepest parent (members g) at
    bytes : group_tag parent n word number g ≡ Ok (tag_of at)

  comes : (g : Group) → AllByRecursion (λ x. x < n) (members g) → Comes g
  comes (lone v) h = record { at = v; inside = h.0; deepest = record { above = itself; lowest = λ e k. k.0 }; bytes = unfold group_tag in refl }
    where
      itself : AboveAll parent v (v ∷ [])
      itself = (here, tt)
  comes (joins g h) a =
      let s = split_all (members g) (members h) a in
      join (comes g s.0) (comes h s.1)
    where
      join : Comes g → Comes h → Comes (joins g h)
      join x y =
          let D = two T y.at y.inside x.at x.inside in
          record {
            at = meet_of parent x.at y.at;
            inside = node T x.inside D.above.0;
            deepest = join_deepest (members g) (members h) x.at y.at (meet_of parent x.at y.at) x.deepest y.deepest D;
            bytes = unfold group_tag in rw (x.bytes, y.bytes) (joined_tags word T L number some small x.at y.at x.inside y.inside);
          }

  groups_cover : GroupsCover parent n word number
  groups_cover =
      record {
        there_is = λ v vs h. (meet_all parent v vs, several T v vs h.0 (none_missing vs h.1));
        only = one T;
        cover_is = λ g d h D.
            let c = comes g h in
            c.bytes ∙ ap (λ v. Ok (tag_of v)) (one T (members g) c.at d c.deepest D);
      }

pub all_groups_cover : Numbered GroupsCover
all_groups_cover parent n word T L number some small = groups_cover word T L number some small
