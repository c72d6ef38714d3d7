use Rattle.std.proofs.Common.{◌-◌}
use Rattle.node_arena.specs.Moves.{tree_nodes}
use Rattle.bind_terms.proofs.NodeLists.{NoneUpTo}
use Rattle.bind_terms.proofs.insides.has_element_inside.Given as goal

abbrev pub invariant-inside : goal.invariant-inside
invariant-inside g l = NoneUpTo (tree_nodes l.doc) l.fn.n l.last l.at

abbrev pub decreases-inside : goal.decreases-inside
decreases-inside g l = l.last - l.at
