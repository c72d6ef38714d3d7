use Rattle.std.specs.List.{list_any}
use Rattle.node_arena.specs.Moves.{is_child}
use Rattle.bind_walk.specs.Chains.{children, still}
use Rattle.bind_walk.specs.Losing.{is_full_text}
use Rattle.bind_walk.proofs.LoopLemmas.{Looks}
use Rattle.bind_walk.proofs.losses.has_full_text.Given as goal

abbrev pub invariant-children : goal.invariant-children
invariant-children g l = Looks (is_child l.fn.n) l.doc (is_full_text l.doc) (list_any (is_full_text l.doc) (children l.doc l.fn.n)) l.at

abbrev pub decreases-children : goal.decreases-children
decreases-children g l = still l.doc l.at
