use Rattle.std.proofs.Common.{◌-◌, ◌<◌, length}
use Rattle.document_tests.proofs.move_cases.moves_of.Given as goal

abbrev pub invariant-nodes : goal.invariant-nodes
invariant-nodes g l = l.n < length l.doc.nodes

abbrev pub decreases-nodes : goal.decreases-nodes
decreases-nodes g l = length l.doc.nodes - l.n
