use Rattle.std.specs.List.{list_any}
use Rattle.node_arena.specs.Moves.{is_attribute_of}
use Rattle.bind_walk.specs.Chains.{attributes, still}
use Rattle.bind_walk.specs.Found.{holds_named}
use Rattle.bind_walk.proofs.LoopLemmas.{Looks}
use Rattle.bind_walk.proofs.guards.some_attribute.Given as goal

abbrev pub invariant-attributes : goal.invariant-attributes
invariant-attributes g l = Looks (is_attribute_of l.fn.n) l.input.doc.now (holds_named l.input.doc.now l.test l.name)
    (list_any (holds_named l.input.doc.now l.test l.name) (attributes l.input.doc.now l.fn.n)) l.at

abbrev pub decreases-attributes : goal.decreases-attributes
decreases-attributes g l = still l.input.doc.now l.at
