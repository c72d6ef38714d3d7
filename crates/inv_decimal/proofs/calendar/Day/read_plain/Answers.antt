use Rattle.std.proofs.Common.{sym, ap, ◌∙◌}
use Rattle.inv_decimal.specs.WrittenDay.{read_plain_day}
use Rattle.inv_decimal.proofs.AsciiDay.{read_plain_day-chars}
use Rattle.inv_decimal.proofs.calendar.Day.read_plain.Goals as goal

pub returns : goal.returns
returns c =
    c.read_plain_bytes.ensures ∙ ap read_plain_day c.as_bytes.ensures.value ∙ sym (read_plain_day-chars c.args.text.now c.utf8.text)
