use Rattle.std.proofs.Common.{sym, arith}
use Rattle.std.proofs.lemmas.Bool.Decides.{nat_tests}
use Rattle.xpath_plan.proofs.SecondLaws.{no_second}
use Rattle.xpath_plan.proofs.forms.second_literal.Goals as goal
use Rattle.xpath_plan.proofs.forms.second_literal.Goals.{in_default-via-then-parts-lt2, in_default-via-else-parts-lt2+else-parts-lt3}

pub returns-in_default : goal.returns-in_default
returns-in_default c = elim c.in_default.branch [
  | in_default-via-then-parts-lt2 w ↦ sym (no_second c.args.parts.now (λ two. grind (arith, nat_tests)))
  | in_default-via-else-parts-lt2+else-parts-lt3 w ↦ sym (no_second c.args.parts.now (λ two. grind (arith, nat_tests)))
]
