use Rattle.xpath_parts.proofs.SlotLemmas.{grows_same}
use Rattle.xpath_run.proofs.whole.plainly.Goals as goal

pub returns-in-Some-node_of-clause-grown : goal.returns-in-Some-node_of-clause-grown
returns-in-Some-node_of-clause-grown g c = grows_same c.args.slots.now
