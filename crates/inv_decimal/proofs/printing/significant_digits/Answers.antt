use Rattle.std.proofs.Common.{refl, arith}
use Rattle.inv_decimal.proofs.DigitLists.{same_digits_more, same_digits_end, same_digits_none}
use Rattle.inv_decimal.proofs.printing.significant_digits.Goals as goal

pub loop-digits-init : goal.loop-digits-init
loop-digits-init c = record { at_most = omega arith; same = refl }

pub loop-digits-preserved : goal.loop-digits-preserved
loop-digits-preserved c =
    same_digits_more _ _ _ c.loop-digits.invariant c.loop-digits-test.true c.if-rest-eq0.true

pub returns-else-rest-eq0-clause-digits : goal.returns-else-rest-eq0-clause-digits
returns-else-rest-eq0-clause-digits c =
    same_digits_end _ _ _ c.loop-digits.invariant c.if-rest-eq0.false

pub returns-after-loop-digits-clause-digits : goal.returns-after-loop-digits-clause-digits
returns-after-loop-digits-clause-digits c =
    same_digits_none _ _ _ c.loop-digits.invariant c.loop-digits-test.false
