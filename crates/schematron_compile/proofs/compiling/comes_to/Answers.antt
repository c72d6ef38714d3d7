use Rattle.std.proofs.Common.{◌∙◌, ap}
use Rattle.node_arena.specs.Moves.{tree_nodes}
use Rattle.schematron_entries.specs.Seen.{seen_entries}
use Rattle.schematron_compile.proofs.NodeLemmas.{node_is}
use Rattle.schematron_compile.proofs.compiling.comes_to.Goals as goal

pub returns-in-Ok-clause-answer : goal.returns-in-Ok-clause-answer
returns-in-Ok-clause-answer g c = c.of_entries.ensures (tree_nodes c.args.doc.now) c.nodes_are_in_order.ensures
    (ap seen_entries c.deref.ensures.value ∙ c.in-Ok.ensures)

pub returns-in-Ok-clause-node : goal.returns-in-Ok-clause-node
returns-in-Ok-clause-node g c =
    node_is c.args.doc.now c.of_entries.result c.nodes_are_in_order.ensures c.faults_tell_nodes.ensures
    (c.of_entries.ensures (tree_nodes c.args.doc.now) c.nodes_are_in_order.ensures (ap seen_entries c.deref.ensures.value ∙ c.in-Ok.ensures))
