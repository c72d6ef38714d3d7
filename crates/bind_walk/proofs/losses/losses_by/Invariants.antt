use Rattle.std.proofs.Common.{◌-◌, length}
use Rattle.bind_walk.proofs.LossLemmas.{Losing}
use Rattle.bind_walk.proofs.losses.losses_by.Given as goal

abbrev pub invariant-nodes : goal.invariant-nodes
invariant-nodes g l = Losing l.doc l.lines l.fn.rows l.reached.spans.items l.reached.way.items l.highest.items l.n l.losses.unread.items l.losses.misplaced.items

abbrev pub decreases-nodes : goal.decreases-nodes
decreases-nodes g l = length l.doc.nodes - l.n
