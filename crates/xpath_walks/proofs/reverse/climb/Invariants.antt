use Rattle.std.proofs.Common.{◌≡◌, ◌<◌, ◌++◌, suc, List, Some, None, length, IfSome}
use Rattle.inv_base.specs.Tree.{Name}
use Rattle.node_arena.specs.Moves.{tree_nodes, tree_node}
use Rattle.xpath_plan.specs.Plans.{test_seen}
use Rattle.xpath_walks.specs.Tests.{numbers_of}
use Rattle.xpath_walks.specs.Walks.{passing, from_up}
use Rattle.xpath_walks.proofs.reverse.climb.Given as goal

abbrev pub invariant-around : goal.invariant-around
invariant-around g l = record {
  within : IfSome l.next (λ m. m < length l.doc.nodes);
  left : (names : List Name) → l.step.numbers.now ≡ numbers_of l.doc.names names
      → l.out.items ++ passing l.step.axis (tree_nodes l.doc) (from_up l.next (tree_nodes l.doc)) (test_seen names l.step.test.now)
      ≡ l.initial.out.items ++ passing l.step.axis (tree_nodes l.doc) (tree_node (tree_nodes l.doc) l.fn.from).above (test_seen names l.step.test.now);
}

abbrev pub decreases-around : goal.decreases-around
decreases-around g l = elim l.next [ None ↦ 0 | Some n ↦ suc n ]
