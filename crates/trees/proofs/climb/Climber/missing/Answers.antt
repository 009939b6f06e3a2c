use Rattle.std.proofs.Common.{nat_le, rules, tests, sym, ◌∙◌}
use Rattle.std.proofs.lemmas.Iterator.{YieldsList-from_slice}
use Rattle.std.proofs.lemmas.Iterator.Consumers.{YieldsList-from_copied}
use Rattle.std.proofs.lemmas.Iterator.Adapters.{option_map_id}
use Rattle.std.proofs.lemmas.Iterator.Search.{find_from_yields_List}
use Rattle.trees.proofs.Answering.{find_missing}
use Rattle.trees.proofs.climb.Climber.missing.Goals as goal

pub returns : goal.returns
returns g c =
    let n = c.args.self.now.count in
    let vs = c.args.nodes.now in
    let chain = YieldsList-from_copied {s = c.copied.result} (YieldsList-from_slice vs cc) in
    let e = find_from_yields_List (λ v. nat_le n v) _ _ c.find.result c.find.ensures.ran chain (λ x b q k. search (rules, tests)) in
    sym (option_map_id c.find.result) ∙ (e ∙ find_missing n vs)
