use Rattle.std.proofs.Common.{◌∙◌}
use Rattle.inv_base.proofs.TextLemmas.{same_chars}
use Rattle.inv_base.proofs.txt.is_same_text.Goals as goal

pub returns : goal.returns
returns c = c.eq.ensures ∙ same_chars _ _ c.utf8.a c.utf8.b
