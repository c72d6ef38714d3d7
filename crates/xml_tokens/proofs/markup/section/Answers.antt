use Rattle.std.proofs.Common.{refl}
use Rattle.xml_tokens.specs.Markup.{section}
use Rattle.xml_tokens.proofs.MarkupLemmas.{tells-right}
use Rattle.xml_tokens.proofs.markup.section.Goals as goal

pub returns : goal.returns
unfolding section
returns c = tells-right _ (section c.args.inside.now) refl
