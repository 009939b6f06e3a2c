-- The answers of the queries on two tags, as they are printed.
use Rattle.std.specs.Prelude.{ℕ, List, ◌++◌, codes}
use Rattle.std.specs.Fmt.{decimal, signed_decimal}
use Rattle.formats.specs.declared.answers.Difference.{Difference}
use Rattle.formats.specs.declared.answers.Difference.TheVariants.{Same, FirstEnded, SecondEnded, At}
use Rattle.formats.specs.declared.answers.Side.{Side}
use Rattle.formats.specs.declared.answers.Side.TheVariants.{First, Second}
use Rattle.formats.specs.declared.answers.Part.{Part}
use Rattle.formats.specs.declared.answers.Relation.{Relation}
use Rattle.formats.specs.declared.answers.Relation.TheVariants.{Same as SameNode, FirstAbove, SecondAbove, Apart}
use Rattle.formats.specs.declared.answers.Related.{Related}

abbrev pub difference_text : Difference → List ℕ
difference_text Same = codes "same"
difference_text FirstEnded = codes "first ended"
difference_text SecondEnded = codes "second ended"
difference_text (At field bit) = codes "field " ++ decimal field ++ codes " bit " ++ decimal bit

abbrev pub side_text : Side → List ℕ
side_text First = codes "first"
side_text Second = codes "second"

abbrev pub part_text : Part → List ℕ
part_text p = side_text p.side ++ codes " " ++ decimal p.fields ++ codes " fields"

abbrev pub relation_text : Relation → List ℕ
relation_text SameNode = codes "same"
relation_text FirstAbove = codes "first above"
relation_text SecondAbove = codes "second above"
relation_text Apart = codes "apart"

abbrev pub related_text : Related → List ℕ
related_text r = relation_text r.relation ++ codes " difference " ++ signed_decimal r.deeper ++ codes " steps " ++ decimal r.steps
