use Rattle.std.proofs.Common.{◌<◌, ◌^◌, arith}
use Rattle.inv_decimal.proofs.DecimalText.{digits_left_step, counts_more, counts_fit, counts_end}
use Rattle.inv_decimal.proofs.printing.digit_count.Goals as goal

pub loop-rest-init : goal.loop-rest-init
loop-rest-init c =
    let fits : c.args.value < 2 ^ 64 = omega arith in
    record { counted = digits_left_step c.args.value fits; small = omega arith }

pub overflow_add-count : goal.overflow_add-count
overflow_add-count c =
    omega (arith, counts_fit _ _ _ c.loop-rest.invariant (omega arith))

pub loop-rest-preserved : goal.loop-rest-preserved
loop-rest-preserved c = counts_more _ _ _ c.loop-rest.invariant c.loop-rest-test.true

pub returns : goal.returns
returns c = counts_end _ _ _ c.loop-rest.invariant c.loop-rest-test.false
