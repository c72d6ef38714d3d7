use Rattle.reading_laws.proofs.NodeLemmas.{tree-rises, document-rises}
use Rattle.reading_laws.proofs.numbers_of_nodes_rise.Goals as goal

pub returns-clause-tree : goal.returns-clause-tree
returns-clause-tree c = tree-rises

pub returns-clause-document : goal.returns-clause-document
returns-clause-document c = document-rises
