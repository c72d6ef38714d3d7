use Rattle.std.proofs.Common.{refl}
use Rattle.inv_decimal.proofs.DigitLists.{digits_none, digits_more, digits_all}
use Rattle.inv_decimal.proofs.printing.write_last_digits.Goals as goal

pub loop-i-init : goal.loop-i-init
loop-i-init c = digits_none _ _ _ refl

pub loop-i-preserved : goal.loop-i-preserved
loop-i-preserved c =
    digits_more _ _ _ _ _ c.loop-i.invariant c.loop-i-test.true c.loop-i.auto.i c.loop-i.auto.out

pub returns : goal.returns
returns c = digits_all _ _ _ _ _ c.loop-i.invariant c.loop-i-test.false
