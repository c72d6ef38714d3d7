use Rattle.std.proofs.Common.{◌∙◌}
use Rattle.xpath_operators.proofs.TextLemmas.{no_characters}
use Rattle.xpath_operators.proofs.truths.is_empty.Goals as goal

pub returns : goal.returns
returns c = c.is_empty.ensures ∙ no_characters c.args.text.now c.utf8.text
