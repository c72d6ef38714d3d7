use Rattle.inv_decimal.proofs.DecimalText.{CountsDigits}
use Rattle.inv_decimal.proofs.printing.digit_count.Given as goal

abbrev pub invariant-loop-rest : goal.invariant-loop-rest
invariant-loop-rest l = CountsDigits l.fn.value l.count l.rest

abbrev pub decreases-loop-rest : goal.decreases-loop-rest
decreases-loop-rest l = l.rest
