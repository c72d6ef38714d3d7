use Rattle.bind_walk.proofs.ChainLemmas.{chained}
use Rattle.bind_walk.proofs.chains.chains_lead_on.Goals as goal

pub returns : goal.returns
returns c = chained _ c.is_of_a_tree.ensures.numbers
