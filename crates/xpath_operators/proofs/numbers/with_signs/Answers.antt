use Rattle.std.proofs.Common.{◌∙◌}
use Rattle.xpath_operators.proofs.SignLemmas.{signs_turned, signs_kept}
use Rattle.xpath_operators.proofs.numbers.with_signs.Goals as goal

pub returns-then-turns_sign : goal.returns-then-turns_sign
returns-then-turns_sign c = c.neg.ensures ∙ signs_turned c.args.signs.now c.args.number c.if-turns_sign.ensures

pub returns-else-turns_sign : goal.returns-else-turns_sign
returns-else-turns_sign c = signs_kept c.args.signs.now c.args.number c.if-turns_sign.ensures
