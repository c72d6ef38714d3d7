use Rattle.std.proofs.Common.{sym, ap, ◌∙◌}
use Rattle.inv_decimal.specs.WrittenDay.{read_dashed_day}
use Rattle.inv_decimal.proofs.AsciiDay.{read_dashed_day-chars}
use Rattle.inv_decimal.proofs.calendar.Day.read_dashed.Goals as goal

pub returns : goal.returns
returns c =
    c.read_dashed_bytes.ensures ∙ ap read_dashed_day c.as_bytes.ensures.value ∙ sym (read_dashed_day-chars c.args.text.now c.utf8.text)
