use Rattle.std.proofs.Common.{ap, ◌∙◌}
use Rattle.inv_decimal.specs.Digits.{last_digits}
use Rattle.inv_decimal.proofs.DayText.{plain_written}
use Rattle.inv_decimal.proofs.calendar.Day.print_plain.Goals as goal

pub returns-clause-text : goal.returns-clause-text
returns-clause-text c =
    rw (← c.self.view_is)
    (plain_written _ _ _ _ _ _ _ c.told-buf (c.write_last_digits.ensures ∙ ap (last_digits _) c.from.ensures)
    (c.write_last_digits-2.ensures ∙ ap (last_digits _) c.from-2.ensures) (c.write_last_digits-3.ensures ∙ ap (last_digits _) c.from-3.ensures))
