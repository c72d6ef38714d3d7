use Rattle.std.proofs.Common.{◌+◌, ◌*◌, length}
use Rattle.bind_walk.specs.Chains.{still}
use Rattle.bind_walk.proofs.WalkLemmas.{Left, Inside}
use Rattle.bind_walk.proofs.walk.+walking.Given as goal

abbrev pub decreases-walk : goal.decreases-walk
decreases-walk g l = 5 * length l.lines.now + 2

abbrev pub decreases-meet : goal.decreases-meet
decreases-meet g l = 5 * length l.lines.now + 1

abbrev pub decreases-follow : goal.decreases-follow
decreases-follow g l = 5 * length l.lines.now

abbrev pub decreases-enter : goal.decreases-enter
decreases-enter g l = 5 * length l.inside.now + 4

abbrev pub decreases-pick_in : goal.decreases-pick_in
decreases-pick_in g l = 5 * length l.inside.now + 3

abbrev pub invariant-walk-children : goal.invariant-walk-children
invariant-walk-children g l = Inside l.input.doc.now l.lines l.position.node l.position.around.now l.initial.finds l.at l.finds

abbrev pub decreases-walk-children : goal.decreases-walk-children
decreases-walk-children g l = still l.input.doc.now l.at

abbrev pub invariant-follow-lines : goal.invariant-follow-lines
invariant-follow-lines g l = Left l.input.doc.now l.fn.lines l.position.node l.position.around.now l.initial.finds l.left l.finds

abbrev pub decreases-follow-lines : goal.decreases-follow-lines
decreases-follow-lines g l = length l.left
