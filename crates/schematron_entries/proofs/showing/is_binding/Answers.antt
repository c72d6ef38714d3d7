use Rattle.std.proofs.Common.{ap, ◌∙◌, ◌||◌, chars}
use Rattle.std.specs.Str.{bytes_eq}
use Rattle.schematron_entries.proofs.WordLemmas.{chars-xslt2, chars-xpath2}
use Rattle.schematron_entries.proofs.showing.is_binding.Goals as goal

pub returns : goal.returns
returns c = λ i. (c.is_same_text.ensures ∙ ap (bytes_eq (chars c.args.text.now)) chars-xslt2) i ||
    (c.is_same_text-2.ensures ∙ ap (bytes_eq (chars c.args.text.now)) chars-xpath2) i
