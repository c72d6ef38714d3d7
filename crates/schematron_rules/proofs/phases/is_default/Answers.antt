use Rattle.std.proofs.Common.{ap, ◌∙◌, chars}
use Rattle.std.specs.Str.{bytes_eq}
use Rattle.schematron_rules.proofs.WordLemmas.{chars-the_default}
use Rattle.schematron_rules.proofs.phases.is_default.Goals as goal

pub returns : goal.returns
returns c = c.is_same_text.ensures ∙ ap (bytes_eq (chars c.args.name.now)) chars-the_default
