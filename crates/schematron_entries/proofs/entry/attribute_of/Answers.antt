use Rattle.std.proofs.Common.{ap, ◌∙◌, chars, map}
use Rattle.schematron_meaning.specs.Words.{chars-attribute_word}
use Rattle.schematron_meaning.specs.Entries as spec
use Rattle.schematron_entries.specs.Seen.{seen_given}
use Rattle.schematron_entries.proofs.entry.attribute_of.Goals as goal

pub returns : goal.returns
returns c = c.value_of.ensures ∙ ap (λ w. spec.value_of w (map seen_given c.args.given.now)) (ap chars c.word.ensures ∙ chars-attribute_word c.args.name)
