use Rattle.node_arena.proofs.TreeLemmas.{document_is_whole}
use Rattle.node_arena.proofs.laws.events_build_a_whole_document.Goals as goal

pub returns : goal.returns
returns c = document_is_whole
