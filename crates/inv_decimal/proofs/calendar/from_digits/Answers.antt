use Rattle.std.proofs.Common.{◌∙◌}
use Rattle.inv_decimal.proofs.ReadDay.{bad_year, bad_month, bad_day, day_read}
use Rattle.inv_decimal.proofs.calendar.from_digits.Goals as goal

pub returns-in_err-number : goal.returns-in_err-number
returns-in_err-number c =
    c.from_residual.ensures ∙ bad_year _ _ _ c.requires c.in_err-number.ensures

pub returns-in_err-number-2 : goal.returns-in_err-number-2
returns-in_err-number-2 c =
    c.from_residual-in_err-number-2.ensures ∙ bad_month _ _ _ c.requires c.in_err-number-2.ensures

pub returns-in_err-number-3 : goal.returns-in_err-number-3
returns-in_err-number-3 c =
    c.from_residual-in_err-number-3.ensures ∙ bad_day _ _ _ c.requires c.in_err-number-3.ensures

pub returns : goal.returns
returns c =
    c.existing.ensures ∙ day_read _ _ _ _ _ _ c.in_ok-number.ensures c.in_ok-number-2.ensures c.in_ok-number-3.ensures
