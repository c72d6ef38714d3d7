use Rattle.std.proofs.Common.{◌≡◌, ◌-◌, ◌<◌, ◌++◌, List, Some, None, length, true, IfSome}
use Rattle.inv_base.specs.Tree.{Name}
use Rattle.node_arena.specs.Moves.{tree_nodes, tree_node}
use Rattle.xpath_plan.specs.Plans.{test_seen}
use Rattle.xpath_walks.specs.Tests.{numbers_of}
use Rattle.xpath_walks.specs.Walks.{is_on_way, walked}
use Rattle.xpath_walks.proofs.walk.walk.Given as goal

abbrev pub invariant-nodes : goal.invariant-nodes
invariant-nodes g l = record {
  within : IfSome l.next (λ m. m < length l.doc.nodes);
  on : IfSome l.next (λ m. is_on_way l.way (tree_node (tree_nodes l.doc) m) ≡ true);
  left : (names : List Name) → l.step.numbers.now ≡ numbers_of l.doc.names names
      → l.out.items ++ walked l.way (tree_nodes l.doc) l.next l.last l.step.axis (test_seen names l.step.test.now)
      ≡ l.initial.out.items ++ walked l.way (tree_nodes l.doc) l.initial.next l.last l.step.axis (test_seen names l.step.test.now);
}

abbrev pub decreases-nodes : goal.decreases-nodes
decreases-nodes g l = elim l.next [ None ↦ 0 | Some n ↦ length l.doc.nodes - n ]
