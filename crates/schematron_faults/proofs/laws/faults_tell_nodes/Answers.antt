use Rattle.schematron_faults.proofs.NodeLemmas.{tells_node}
use Rattle.schematron_faults.proofs.laws.faults_tell_nodes.Goals as goal

pub returns : goal.returns
returns c = λ nodes fault ordered e. tells_node nodes fault (c.numbers_rise.ensures nodes ordered) (c.numbers_are_of_nodes.ensures nodes ordered) e
