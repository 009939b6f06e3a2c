use Rattle.std.proofs.Common.{◌≡◌, true, false, ◌∙◌, rules, tests}
use Rattle.std.proofs.lemmas.Iterator.{first_from_Range}
use Rattle.tags.proofs.Compared.{differ, found}
use Rattle.tags.proofs.field.FieldWord.common.Goals as goal

pub returns : goal.returns
returns c =
    c.unwrap_or.ensures
    ∙ found c.args.self.now c.args.other.now c.find.result c.min-shorter.result c.min-shorter.ensures
    (first_from_Range _ _ _ c.find.result (λ k. differ c.args.self.now c.args.other.now k ≡ true) (λ k. differ c.args.self.now c.args.other.now k ≡ false) c.find.ensures.ran (λ k q h. search (rules, tests)) (λ k q h. search (rules, tests)))
