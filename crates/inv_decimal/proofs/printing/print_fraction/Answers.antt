use Rattle.std.proofs.Common.{◌≡◌, [], length, ap, ◌∙◌, sym, arith}
use Rattle.inv_decimal.specs.Digits.{last_digits, overwritten}
use Rattle.inv_decimal.specs.WrittenNumber.{behind_point}
use Rattle.inv_decimal.proofs.DigitLists.{last_digits-zero}
use Rattle.inv_decimal.proofs.Overwritten.{overwritten-nil}
use Rattle.inv_decimal.proofs.printing.print_fraction.Goals as goal

pub returns-then-digits-eq0-clause-text : goal.returns-then-digits-eq0-clause-text
returns-then-digits-eq0-clause-text c =
    let none : last_digits c.args.digits c.args.fraction ≡ [] =
    ap (λ k. last_digits k c.args.fraction) c.if-digits-eq0.true ∙ last_digits-zero c.args.fraction in
    sym (ap (λ ds. overwritten c.args.buf.now c.args.at (behind_point ds)) none ∙ overwritten-nil c.args.buf.now c.args.at)

pub returns-then-digits-eq0-clause-len : goal.returns-then-digits-eq0-clause-len
returns-then-digits-eq0-clause-len c =
    let none : last_digits c.args.digits c.args.fraction ≡ [] =
    ap (λ k. last_digits k c.args.fraction) c.if-digits-eq0.true ∙ last_digits-zero c.args.fraction in
    omega (arith, ap (λ ds. length (behind_point ds)) none)
