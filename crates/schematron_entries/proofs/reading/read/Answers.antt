use Rattle.node_arena.specs.Moves.{tree_nodes}
use Rattle.schematron_entries.proofs.ReadLemmas.{begun}
use Rattle.schematron_entries.proofs.reading.read.Goals as goal

pub nodes-init : goal.nodes-init
nodes-init g c = record {
  within = c.document.ensures.within;
  left =
      begun (tree_nodes c.args.doc.now) c.new-entries.ensures.items c.new-seen.ensures.items c.document.ensures.number;
}
