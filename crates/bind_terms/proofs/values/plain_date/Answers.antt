use Rattle.std.proofs.Common.{Some, None, ap, sym, ◌∙◌}
use Rattle.std.specs.Str.{chars}
use Rattle.inv_decimal.specs.WrittenDay.{read_plain_day}
use Rattle.bind_terms.proofs.Days.{date-is}
use Rattle.bind_terms.proofs.values.plain_date.Goals as goal

pub returns-in-Some : goal.returns-in-Some
returns-in-Some c =
    date-is (chars c.args.text.now) (Some c.in-Some.day) (sym c.in-Some.is ∙ (c.read_plain.ensures ∙ ap read_plain_day c.trimmed.ensures))

pub returns-in-None : goal.returns-in-None
returns-in-None c = date-is (chars c.args.text.now) None (sym c.in-None.is ∙ (c.read_plain.ensures ∙ ap read_plain_day c.trimmed.ensures))
