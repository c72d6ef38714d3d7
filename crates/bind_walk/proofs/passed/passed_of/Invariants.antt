use Rattle.std.proofs.Common.{◌-◌, length}
use Rattle.bind_walk.proofs.PassLemmas.{Noting}
use Rattle.bind_walk.proofs.passed.passed_of.Given as goal

abbrev pub invariant-nodes : goal.invariant-nodes
invariant-nodes g l = Noting l.doc l.lines l.fn.rows l.reached.spans.items l.reached.way.items l.n l.passed.items

abbrev pub decreases-nodes : goal.decreases-nodes
decreases-nodes g l = length l.doc.nodes - l.n
