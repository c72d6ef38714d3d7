use Rattle.inv_decimal.proofs.NumberParts.{ReadsDigits}
use Rattle.inv_decimal.proofs.reading.number.Given as goal

abbrev pub invariant-loop-digit : goal.invariant-loop-digit
invariant-loop-digit l = ReadsDigits l.digits l.digit-index l.value
