use Rattle.std.proofs.Common.{◌≡◌, ◌+◌, ◌-◌, ◌++◌, ◌<◌, Some, None, length, map, drop, IfSome}
use Rattle.node_arena.specs.Moves.{tree_nodes}
use Rattle.schematron_meaning.specs.Entries as spec
use Rattle.schematron_entries.specs.Seen.{seen_given}
use Rattle.schematron_entries.specs.Reading.{from_next}
use Rattle.schematron_entries.proofs.reading.given_at.Given as goal

abbrev pub invariant-attributes : goal.invariant-attributes
invariant-attributes g l = record {
  within : IfSome l.next (λ m. m < length l.doc.nodes);
  left : spec.given_at (drop (l.fn.n + 1) (tree_nodes l.doc)) ≡ map seen_given l.given.items ++ spec.given_at (from_next (tree_nodes l.doc) l.next);
}

abbrev pub decreases-attributes : goal.decreases-attributes
decreases-attributes g l = elim l.next [ None ↦ 0 | Some m ↦ length l.doc.nodes - m ]
