use Rattle.std.proofs.Common.{sym, ◌∙◌}
use Rattle.xpath_tokens.proofs.TextLemmas.{same_text}
use Rattle.xpath_tokens.proofs.texts.is_text.Goals as goal

pub returns : goal.returns
returns c = c.eq.ensures ∙ sym (same_text _ _ c.utf8.a c.utf8.b)
