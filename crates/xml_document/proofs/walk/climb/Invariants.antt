use Rattle.std.proofs.Common.{◌≡◌, true, ◌⊎◌}
use Rattle.node_arena.specs.Moves.{tree_nodes, tree_node, is_inside}
use Rattle.xml_document.specs.Walking.{StandsIn}
use Rattle.xml_document.proofs.walk.climb.Given as goal

abbrev pub invariant-around : goal.invariant-around
invariant-around g l = record {
  stands : StandsIn l.doc l.inner;
  around : (l.to ≡ l.inner.node) ⊎ (is_inside l.to (tree_node (tree_nodes l.doc) l.inner.node) ≡ true);
}

abbrev pub decreases-around : goal.decreases-around
decreases-around g l = l.inner.node
