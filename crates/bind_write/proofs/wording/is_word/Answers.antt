use Rattle.std.proofs.Common.{◌∙◌}
use Rattle.inv_terms.proofs.SpellLemmas.{same_text}
use Rattle.bind_write.proofs.wording.is_word.Goals as goal

pub returns : goal.returns
returns c = c.eq.ensures ∙ same_text c.args.word.now c.args.text.now c.utf8.word c.utf8.text
