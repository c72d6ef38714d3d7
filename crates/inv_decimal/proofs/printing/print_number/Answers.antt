use Rattle.std.proofs.Common.{◌≤◌, length, decimal, arith}
use Rattle.std.proofs.lemmas.Fmt.{length-decimal-le}
use Rattle.inv_decimal.specs.Digits.{last_digits}
use Rattle.inv_decimal.proofs.DecimalText.{decimal-last_digits}
use Rattle.inv_decimal.proofs.DigitLists.{length-last_digits}
use Rattle.inv_decimal.proofs.Overwritten.{length-sign_text, length-behind_point, printed_is}
use Rattle.inv_decimal.proofs.printing.print_number.Goals as goal

pub overflow_add-point : goal.overflow_add-point
overflow_add-point c =
    omega (arith, length-sign_text c.args.negative, length-decimal-le 18 c.args.whole (omega arith) (omega arith) (omega arith))

pub slice_bounds-write_last_digits-end : goal.slice_bounds-write_last_digits-end
slice_bounds-write_last_digits-end c =
    omega (arith, length-sign_text c.args.negative, length-decimal-le 18 c.args.whole (omega arith) (omega arith) (omega arith))

pub print_fraction-requires : goal.print_fraction-requires
print_fraction-requires c =
    omega (arith, length-sign_text c.args.negative, length-decimal-le 18 c.args.whole (omega arith) (omega arith) (omega arith))

pub returns-clause-text : goal.returns-clause-text
returns-clause-text c =
    let short : length (decimal c.args.whole) ≤ 18 = length-decimal-le 18 c.args.whole (omega arith) (omega arith) (omega arith) in
    let sign = length-sign_text c.args.negative in
    printed_is _ _ _ _ _ _ _ _ _ _ _ c.told-buf sign short c.print_sign-start.ensures.text c.print_sign-start.ensures.len c.digit_count.ensures
    (decimal-last_digits c.args.whole (omega arith)) c.write_last_digits.ensures c.print_fraction.ensures.text c.print_fraction.ensures.len

pub returns-clause-short : goal.returns-clause-short
returns-clause-short c =
    let fraction = last_digits c.args.digits c.args.fraction in
    let short : length (decimal c.args.whole) ≤ 18 = length-decimal-le 18 c.args.whole (omega arith) (omega arith) (omega arith) in
    let start = length-sign_text c.args.negative in
    let behind = length-behind_point (last_digits c.args.digits c.args.fraction) in
    omega (arith, c.print_fraction.ensures.len, length-last_digits c.args.digits c.args.fraction)
