use Rattle.std.proofs.Common.{◌==◌, length, ap, ◌∙◌}
use Rattle.xml_tokens.proofs.MarkupLemmas.{blank-told}
use Rattle.xml_tokens.proofs.declaration.is_blank.Goals as goal

pub returns : goal.returns
returns c = c.is_empty.ensures ∙ (ap (λ x. length x == 0) c.behind_white_space.ensures ∙ blank-told c.args.text.now)
