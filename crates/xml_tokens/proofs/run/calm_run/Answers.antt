use Rattle.xml_tokens.proofs.FrontLemmas.{calm-plain}
use Rattle.xml_tokens.proofs.run.calm_run.Goals as goal

pub returns-clause-plain : goal.returns-clause-plain
returns-clause-plain c = calm-plain c.calm_front.result.now c.text_front.result.now c.text_front.utf8 c.text_front.ensures.front c.calm_front.ensures.none
    c.calm_front.ensures.calm
