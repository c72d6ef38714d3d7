use Rattle.std.proofs.Common.{ap, ◌∙◌, chars}
use Rattle.std.specs.Str.{bytes_eq}
use Rattle.schematron_rules.proofs.WordLemmas.{chars-all_phases}
use Rattle.schematron_rules.proofs.phases.is_all.Goals as goal

pub returns : goal.returns
returns c = c.is_same_text.ensures ∙ ap (bytes_eq (chars c.args.name.now)) chars-all_phases
