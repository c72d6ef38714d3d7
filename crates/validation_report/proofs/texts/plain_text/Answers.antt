use Rattle.std.proofs.Common.{◌∙◌}
use Rattle.std.proofs.lemmas.Str.{chars-IsAscii}
use Rattle.validation_report.proofs.texts.plain_text.Goals as goal

pub returns : goal.returns
returns c = c.of.ensures ∙ chars-IsAscii c.args.text.now c.requires
