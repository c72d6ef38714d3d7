use Rattle.std.proofs.Common.{chars}
use Rattle.schematron_faults.proofs.TextLemmas.{stays_plain}
use Rattle.schematron_faults.proofs.texts.text_stays.Goals as goal

pub returns-else-has_dollar : goal.returns-else-has_dollar
returns-else-has_dollar c = λ h. stays_plain c.args.blanks.now (chars c.args.text.now) c.has_dollar.result c.has_dollar.ensures c.if-has_dollar.false
