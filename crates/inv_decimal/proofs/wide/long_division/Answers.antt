use Rattle.std.proofs.Common.{◌≡◌, arith}
use Rattle.inv_decimal.proofs.Products.{long_division_init, long_division_more, long_division_fits, long_division_end, left_fits}
use Rattle.inv_decimal.proofs.wide.long_division.Goals as goal

pub loop-init : goal.loop-init
loop-init c = long_division_init _ _ _ c.requires.rest_in

pub overflow_mul-left : goal.overflow_mul-left
overflow_mul-left c =
    omega (arith, left_fits c.loop.left c.args.divisor c.args.step c.loop.invariant.rest)

pub overflow_mul-quotient : goal.overflow_mul-quotient
overflow_mul-quotient c =
    omega (
      arith,
      long_division_fits c.loop.quotient c.args.divisor c.loop.left c.args.rest c.args.step c.loop.counter c.args.times c.loop.invariant
          c.requires.rest_in c.requires.step_in c.loop-test.true c.requires.quotient_in,
    )

pub overflow_add-quotient : goal.overflow_add-quotient
overflow_add-quotient c =
    omega (
      arith,
      long_division_fits c.loop.quotient c.args.divisor c.loop.left c.args.rest c.args.step c.loop.counter c.args.times c.loop.invariant
          c.requires.rest_in c.requires.step_in c.loop-test.true c.requires.quotient_in,
    )

pub loop-preserved : goal.loop-preserved
loop-preserved c = long_division_more _ _ _ _ _ _ c.loop.invariant

pub returns : goal.returns
returns c =
    let done : c.loop.counter ≡ c.args.times = omega arith in
    rw (← done) (long_division_end _ _ _ _ _ _ c.loop.invariant)
