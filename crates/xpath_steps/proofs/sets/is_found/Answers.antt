use Rattle.std.proofs.Common.{◌∙◌}
use Rattle.xpath_steps.proofs.SetLemmas.{found_is}
use Rattle.xpath_steps.proofs.sets.is_found.Goals as goal

pub returns : goal.returns
returns c = c.is_ok.ensures.value ∙ found_is c.args.nodes.now c.args.n c.binary_search.result c.requires c.binary_search.ensures.position
