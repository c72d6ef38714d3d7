use Rattle.std.proofs.Common.{◌++◌, length, drop, ap, ◌∙◌}
use Rattle.inv_decimal.proofs.PrintNumber.{decimal_text_is}
use Rattle.inv_decimal.proofs.decimal.Dec.print.Goals as goal

pub returns-clause-text : goal.returns-clause-text
returns-clause-text c =
    c.print_number.ensures.text ∙ ap (λ x. x ++ drop c.print_number.result c.args.buf.now)
    (decimal_text_is _ _ _ _ _ _ c.parts-whole.ensures.whole c.parts-whole.ensures.rest c.is_negative.ensures c.significant_digits-digits.ensures.digits)

pub returns-clause-len : goal.returns-clause-len
returns-clause-len c =
    c.print_number.ensures.len ∙ ap length (decimal_text_is _ _ _ _ _ _ c.parts-whole.ensures.whole c.parts-whole.ensures.rest c.is_negative.ensures
    c.significant_digits-digits.ensures.digits)
