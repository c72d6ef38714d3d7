use Rattle.std.proofs.Common.{◌∙◌}
use Rattle.xpath_operators.proofs.TextLemmas.{same_text}
use Rattle.xpath_operators.proofs.readings.is_word.Goals as goal

pub returns : goal.returns
returns c = c.eq.ensures ∙ same_text c.args.text.now c.args.word.now c.utf8.text c.utf8.word
