use Rattle.xpath_parts.proofs.GivesLemmas.{outcome-within}
use Rattle.xpath_run.proofs.whole.by_cycle.Goals as goal

pub returns-clause-within : goal.returns-clause-within
returns-clause-within g c = outcome-within _ c.evaluate-found.result c.outcome.result c.outcome.ensures c.evaluate-found.ensures.within
