use Rattle.xml_tokens.proofs.MarkupLemmas.{ends-nothing}
use Rattle.xml_tokens.proofs.markup.ends_target.Goals as goal

pub returns-in-None : goal.returns-in-None
returns-in-None c = ends-nothing c.args.rest.now c.in-None.ensures
