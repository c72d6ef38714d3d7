use Rattle.inv_decimal.proofs.DigitLists.{SameDigits}
use Rattle.inv_decimal.proofs.printing.significant_digits.Given as goal

abbrev pub invariant-loop-digits : goal.invariant-loop-digits
invariant-loop-digits l = SameDigits l.fn.fraction l.digits l.rest

abbrev pub decreases-loop-digits : goal.decreases-loop-digits
decreases-loop-digits l = l.digits
