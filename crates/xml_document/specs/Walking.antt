-- A walk over the nodes of a document in document order.
use Rattle.std.specs.Prelude.{◌≡◌, ℕ, ◌+◌, ◌<◌, ◌^◌, [], length, Option, MatchOption}
use Rattle.node_arena.specs.Document.{Document, AreNumbered}
use Rattle.node_arena.specs.Moves.{tree_nodes, tree_node}
use Rattle.node_arena.specs.Walks.{LeadsOn}
use Rattle.xml_document.specs.declared.walk.Walk.{Walk}

-- The nodes have the numbers of their places, the first is inside none, and the moves lead from each to the next.
pub record IsWalkable (document : Document) : Type 0 where
  pub few : length document.nodes < 2 ^ 32
  pub rooted : 1 < length document.nodes
  pub numbered : AreNumbered 0 document.nodes
  pub outermost : (tree_node (tree_nodes document) 0).above ≡ []
  pub leads : (n : ℕ) → n < length document.nodes → LeadsOn (tree_nodes document) n

-- A walk stands at a node, and its level is how many nodes that one is inside.
pub record StandsIn (document : Document) (walk : Walk) : Type 0 where
  pub within : walk.node < length document.nodes
  pub level : walk.level ≡ length (tree_node (tree_nodes document) walk.node).above

-- The walk stands at the next node.
pub record IsNext (document : Document) (before after : Walk) : Type 0 where
  pub next : after.node ≡ before.node + 1
  pub stands : StandsIn document after

-- A walk goes on to the next node, or ends at the last.
abbrev pub GoesOn : Document → Walk → Option Walk → Type 0
GoesOn document before found = MatchOption found (before.node + 1 ≡ length document.nodes) (IsNext document before)
