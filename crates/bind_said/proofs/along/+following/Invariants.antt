use Rattle.std.proofs.Common.{◌+◌, ◌*◌, length, chars}
use Rattle.node_arena.specs.Moves.{is_child}
use Rattle.bind_walk.specs.Chains.{still}
use Rattle.bind_said.specs.Saying.{saying_in}
use Rattle.bind_said.proofs.LoopLemmas.{Marking}
use Rattle.bind_said.proofs.along.+following.Given as goal

abbrev pub decreases-mark_below : goal.decreases-mark_below
decreases-mark_below g l = 2 * length l.path.now

abbrev pub decreases-mark_in : goal.decreases-mark_in
decreases-mark_in g l = 2 * length l.path.now + 1

abbrev pub invariant-mark_below-children : goal.invariant-mark_below-children
invariant-mark_below-children g l =
    Marking (is_child l.fn.n) l.input.doc.now (saying_in l.input.doc.now (chars l.text) l.leaf l.step l.deeper) l.initial.marks.items l.at l.marks.items

abbrev pub decreases-mark_below-children : goal.decreases-mark_below-children
decreases-mark_below-children g l = still l.input.doc.now l.at
