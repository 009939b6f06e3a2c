use Rattle.std.proofs.Common.{sym, arith}
use Rattle.std.proofs.lemmas.List.Sums.{prefix_len-le-length}
use Rattle.texts.specs.Numbers.{is_digit}
use Rattle.std.proofs.lemmas.Grind.{common_steps}
use Rattle.texts.proofs.Bounds.{small}
use Rattle.texts.proofs.level.Goals as goal

pub split_at-requires : goal.split_at-requires
split_at-requires c = let l = prefix_len-le-length is_digit c.args.line.now in omega (arith, c.digit_count.ensures)

pub returns : goal.returns
returns c = let l = small 65535 c.split_at.result.0.now c.in_ok-number.field-0 (sym c.in_ok-number.ensures) in grind (arith, common_steps)
