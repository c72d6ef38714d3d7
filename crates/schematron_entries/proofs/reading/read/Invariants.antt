use Rattle.std.proofs.Common.{◌≡◌, ◌-◌, ◌++◌, ◌<◌, Some, None, length, IfSome}
use Rattle.node_arena.specs.Moves.{tree_nodes}
use Rattle.schematron_meaning.specs.Entries as spec
use Rattle.schematron_entries.specs.Seen.{seen_entries}
use Rattle.schematron_entries.specs.Reading.{from_next}
use Rattle.schematron_entries.proofs.reading.read.Given as goal

abbrev pub invariant-nodes : goal.invariant-nodes
invariant-nodes g l = record {
  within : IfSome l.next (λ m. m < length l.doc.nodes);
  left : spec.entries (tree_nodes l.doc) ≡ seen_entries l.entries.items ++ spec.entries_behind l.seen.items (from_next (tree_nodes l.doc) l.next);
}

abbrev pub decreases-nodes : goal.decreases-nodes
decreases-nodes g l = elim l.next [ None ↦ 0 | Some m ↦ length l.doc.nodes - m ]
