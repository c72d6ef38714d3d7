use Rattle.node_arena.proofs.TreeLemmas.{document_has_nodes}
use Rattle.node_arena.proofs.laws.events_build_the_nodes_of_their_tree.Goals as goal

pub returns : goal.returns
returns c = document_has_nodes
