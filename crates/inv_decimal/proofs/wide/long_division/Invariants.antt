use Rattle.inv_decimal.proofs.Products.{LongDivision}
use Rattle.inv_decimal.proofs.wide.long_division.Given as goal

abbrev pub invariant-loop : goal.invariant-loop
invariant-loop l = LongDivision l.quotient l.divisor l.left l.rest l.step l.counter
