-- What rules are judged over.
use Rattle.std.specs.Prelude.{ℕ, List, length}
use Rattle.inv_base.specs.Tree.{Node}
use Rattle.node_arena.specs.Moves.{tree_nodes}
use Rattle.node_locations.specs.Locations.{AreOrdinals}
use Rattle.schematron_run.specs.declared.input.JudgingInput.{JudgingInput}

-- the nodes of the document
abbrev pub nodes_of : JudgingInput → List Node
nodes_of input = tree_nodes input.doc.now

-- how many nodes it has
abbrev pub count : JudgingInput → ℕ
count input = length input.doc.now.nodes

-- The ordinals are the document's.
abbrev pub IsSet : JudgingInput → Type 0
IsSet input = AreOrdinals input.doc.now input.ordinals.now
