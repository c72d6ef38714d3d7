use Rattle.std.proofs.Common.{ap, ◌∙◌, chars}
use Rattle.std.specs.Str.{bytes_eq}
use Rattle.schematron_entries.proofs.WordLemmas.{chars-true}
use Rattle.schematron_entries.proofs.roles.is_true.Goals as goal

pub returns : goal.returns
returns c = c.is_same_text.ensures ∙ ap (bytes_eq (chars c.args.text.now)) chars-true
