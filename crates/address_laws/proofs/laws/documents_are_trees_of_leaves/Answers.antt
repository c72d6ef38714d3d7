use Rattle.address_laws.proofs.Documents.{document-tree}
use Rattle.address_laws.proofs.laws.documents_are_trees_of_leaves.Goals as goal

pub returns : goal.returns
returns c rows es invoice laid addressed = document-tree rows es invoice.placed laid addressed
