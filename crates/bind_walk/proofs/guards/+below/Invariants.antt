use Rattle.std.proofs.Common.{◌+◌, ◌*◌, length}
use Rattle.std.specs.List.{list_any}
use Rattle.node_arena.specs.Moves.{is_child}
use Rattle.bind_walk.specs.Chains.{children, still}
use Rattle.bind_walk.specs.Found.{some_at}
use Rattle.bind_walk.proofs.LoopLemmas.{Looks}
use Rattle.bind_walk.proofs.guards.+below.Given as goal

abbrev pub decreases-some_below : goal.decreases-some_below
decreases-some_below g l = 2 * length l.path.now

abbrev pub decreases-some_at : goal.decreases-some_at
decreases-some_at g l = 2 * length l.path.now + 1

abbrev pub invariant-some_below-children : goal.invariant-some_below-children
invariant-some_below-children g l =
    Looks (is_child l.fn.n) l.input.doc.now (some_at l.input.doc.now l.guard l.name l.deeper)
    (list_any (some_at l.input.doc.now l.guard l.name l.deeper) (children l.input.doc.now l.fn.n)) l.at

abbrev pub decreases-some_below-children : goal.decreases-some_below-children
decreases-some_below-children g l = still l.input.doc.now l.at
