-- Where a walk begins.
use Rattle.std.proofs.Common.{◌≡◌, [], ap}
use Rattle.node_arena.specs.Document.{Document}
use Rattle.node_arena.specs.Moves.{IsOfATree, tree_nodes, tree_node}

-- The document is inside nothing.
pub outermost : (document : Document) → IsOfATree document → (tree_node (tree_nodes document) 0).above ≡ []
outermost document is = ap (λ nodes. (tree_node nodes 0).above) is.has_nodes
