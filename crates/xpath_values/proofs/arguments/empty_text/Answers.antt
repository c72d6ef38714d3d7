use Rattle.std.proofs.Common.{◌∙◌}
use Rattle.std.proofs.lemmas.Str.{chars-nil}
use Rattle.xpath_values.proofs.arguments.empty_text.Goals as goal

pub returns : goal.returns
returns c = c.lent.ensures ∙ chars-nil
