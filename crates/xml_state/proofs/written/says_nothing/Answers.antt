use Rattle.std.proofs.Common.{◌∙◌}
use Rattle.xml_state.proofs.WrittenLemmas.{empty_chars}
use Rattle.xml_state.proofs.written.says_nothing.Goals as goal

pub returns : goal.returns
returns c = c.is_empty.ensures ∙ empty_chars _ c.utf8.text
