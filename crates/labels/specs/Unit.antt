-- The unit of levels 0, 1, 2, 2, 1, 2 under tree number 7, worked out, with some words of codes and a binary tree beside it.
use Rattle.std.specs.Prelude.{◌≡◌, ℕ, Bool, true, false, List, [], ◌∷◌, map, length, take, pos, negsuc, Some, None, Ok, Option, Result}
use Rattle.std.specs.List.{range_with_len}
use Rattle.trees.specs.declared.host.HostFault.{HostFault}
use Rattle.trees.specs.declared.rule.Shape.TheVariants.{Binary}
use Rattle.trees.specs.Indented.{indented_verdict, indented_parent}
use Rattle.trees.specs.Rule.{rule_parent}
use Rattle.trees.specs.Deepest.{meet_of}
use Rattle.codes.specs.declared.word.Word.{Word}
use Rattle.codes.specs.Words.{bits}
use Rattle.codes.specs.Gilbert.{gilbert_moore}
use Rattle.codes.specs.Halves.{bisection}
use Rattle.formats.specs.declared.answers.Difference.{Difference}
use Rattle.formats.specs.declared.answers.Difference.TheVariants.{At}
use Rattle.formats.specs.declared.answers.Part.{Part}
use Rattle.formats.specs.declared.answers.Side.TheVariants.{Second}
use Rattle.formats.specs.declared.answers.Related.{Related}
use Rattle.formats.specs.declared.answers.Relation.TheVariants.{Apart}
use Rattle.formats.specs.declared.fault.PairRefusal.{PairRefusal}
use Rattle.formats.specs.Label.{Label, path, branch}
use Rattle.formats.specs.Queries.{difference_answer, cover_answer, relate_answer}
use Rattle.labels.specs.Sizes.{size, heavy, light_size}
use Rattle.labels.specs.Small.{for_all}
use Rattle.labels.specs.Labels.{label}
use Rattle.labels.specs.Sheet.{tag, offset, sheet}

abbrev pub levels : List ℕ
levels = 0 ∷ 1 ∷ 2 ∷ 2 ∷ 1 ∷ 2 ∷ []

abbrev pub unit_parent : ℕ → Option ℕ
unit_parent v = indented_parent levels v

abbrev pub unit_tag : ℕ → List ℕ
unit_tag v = tag unit_parent 6 gilbert_moore 7 v

-- the words of a list of weights, in order
abbrev pub all_words : (List ℕ → ℕ → Word) → List ℕ → List (List Bool)
all_words word ws = map (λ i. bits (word ws i)) (range_with_len 0 (length ws))

-- a row of the table for each thing that is worked out
pub record UnitTable : Type 0 where
  pub verdict : Result ℕ HostFault
  pub parents : List (Option ℕ)
  pub in_binary : List (Option ℕ)
  pub three_weights : List (List Bool)
  pub one_weight : List (List Bool)
  pub one_halved : List (List Bool)
  pub three_halved : List (List Bool)
  pub sizes : List ℕ
  pub heavies : List (Option ℕ)
  pub lights : List ℕ
  pub labels : List Label
  pub tag_5 : List ℕ
  pub offsets : List ℕ
  pub header : List ℕ
  pub bytes : ℕ
  pub cover_3_5 : Result Part PairRefusal
  pub meet_3_5 : ℕ
  pub cover_2_3 : Result Part PairRefusal
  pub meet_2_3 : ℕ
  pub apart_2_3 : Result Difference PairRefusal
  pub relate_1_5 : Result Related PairRefusal
  pub relate_5_1 : Result Related PairRefusal

-- by the definitions that the contracts cite
abbrev pub by_definition : UnitTable
by_definition = record {
  verdict = indented_verdict levels;
  parents = for_all unit_parent;
  in_binary = map (rule_parent Binary 5) (range_with_len 0 5);
  three_weights = all_words gilbert_moore (3 ∷ 2 ∷ 1 ∷ []);
  one_weight = all_words gilbert_moore (5 ∷ []);
  one_halved = all_words bisection (5 ∷ []);
  three_halved = all_words bisection (3 ∷ 2 ∷ 1 ∷ []);
  sizes = for_all (size unit_parent 6);
  heavies = for_all (heavy unit_parent 6);
  lights = for_all (light_size unit_parent 6);
  labels = for_all (label unit_parent 6 gilbert_moore);
  tag_5 = unit_tag 5;
  offsets = map (offset unit_parent 6 gilbert_moore 7) (range_with_len 0 7);
  header = take 32 (sheet unit_parent 6 gilbert_moore 7);
  bytes = length (sheet unit_parent 6 gilbert_moore 7);
  cover_3_5 = cover_answer (unit_tag 3) (unit_tag 5);
  meet_3_5 = meet_of unit_parent 3 5;
  cover_2_3 = cover_answer (unit_tag 2) (unit_tag 3);
  meet_2_3 = meet_of unit_parent 2 3;
  apart_2_3 = difference_answer (unit_tag 2) (unit_tag 3);
  relate_1_5 = relate_answer (unit_tag 1) (unit_tag 5);
  relate_5_1 = relate_answer (unit_tag 5) (unit_tag 1);
}

-- by hand
abbrev pub by_hand : UnitTable
by_hand = record {
  verdict = Ok 6;
  parents = None ∷ Some 0 ∷ Some 1 ∷ Some 1 ∷ Some 0 ∷ Some 4 ∷ [];
  in_binary = None ∷ Some 0 ∷ Some 0 ∷ Some 1 ∷ Some 1 ∷ [];
  three_weights = (false ∷ true ∷ []) ∷ (true ∷ false ∷ true ∷ []) ∷ (true ∷ true ∷ true ∷ false ∷ []) ∷ [];
  one_weight = (true ∷ []) ∷ [];
  one_halved = (false ∷ []) ∷ [];
  three_halved = (false ∷ false ∷ []) ∷ (false ∷ true ∷ []) ∷ (true ∷ []) ∷ [];
  sizes = 6 ∷ 3 ∷ 1 ∷ 1 ∷ 2 ∷ 1 ∷ [];
  heavies = Some 1 ∷ Some 2 ∷ None ∷ None ∷ Some 5 ∷ None ∷ [];
  lights = 3 ∷ 2 ∷ 1 ∷ 1 ∷ 1 ∷ 1 ∷ [];
  labels =
      (path (false ∷ true ∷ []) 0 ∷ [])
      ∷ (path (true ∷ false ∷ true ∷ []) 1 ∷ [])
      ∷ (path (true ∷ true ∷ true ∷ false ∷ []) 2 ∷ [])
      ∷ (path (true ∷ false ∷ true ∷ []) 1 ∷ branch (true ∷ []) ∷ path (true ∷ []) 2 ∷ [])
      ∷ (path (false ∷ true ∷ []) 0 ∷ branch (true ∷ []) ∷ path (false ∷ true ∷ []) 1 ∷ [])
      ∷ (path (false ∷ true ∷ []) 0 ∷ branch (true ∷ []) ∷ path (true ∷ true ∷ []) 2 ∷ [])
      ∷ [];
  tag_5 = 0x07 ∷ 0x00 ∷ 0x03 ∷ 0x02 ∷ 0x00 ∷ 0x03 ∷ 0x00 ∷ 0x05 ∷ 0x00 ∷ 0x00 ∷ 0x00 ∷ 0x02 ∷ 0x00 ∷ 0x78 ∷ [];
  offsets = 32 ∷ 40 ∷ 48 ∷ 56 ∷ 70 ∷ 84 ∷ 98 ∷ [];
  header =
      0x07 ∷ 0x00 ∷ 0x06 ∷ 0x00 ∷ 0x20 ∷ 0x00 ∷ 0x00 ∷ 0x00 ∷ 0x28 ∷ 0x00 ∷ 0x00 ∷ 0x00 ∷ 0x30 ∷ 0x00 ∷ 0x00 ∷ 0x00
      ∷ 0x38 ∷ 0x00 ∷ 0x00 ∷ 0x00 ∷ 0x46 ∷ 0x00 ∷ 0x00 ∷ 0x00 ∷ 0x54 ∷ 0x00 ∷ 0x00 ∷ 0x00 ∷ 0x62 ∷ 0x00 ∷ 0x00 ∷ 0x00 ∷ [];
  bytes = 98;
  cover_3_5 = Ok (record { side = Second; fields = 1 });
  meet_3_5 = 0;
  cover_2_3 = Ok (record { side = Second; fields = 1 });
  meet_2_3 = 1;
  apart_2_3 = Ok (At 0 1);
  relate_1_5 = Ok (record { relation = Apart; deeper = pos 1; steps = 3 });
  relate_5_1 = Ok (record { relation = Apart; deeper = negsuc 0; steps = 3 });
}

abbrev pub WorkedOut : Type 0
WorkedOut = by_definition ≡ by_hand
