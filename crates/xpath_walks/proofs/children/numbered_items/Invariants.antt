use Rattle.std.proofs.Common.{◌≡◌, ◌-◌, ◌<◌, ◌++◌, List, Some, None, length, true, IfSome}
use Rattle.inv_base.specs.Tree.{Name}
use Rattle.node_arena.specs.Moves.{tree_nodes, tree_node}
use Rattle.xpath_grammar.specs.declared.step.Axis.TheVariants as a
use Rattle.xpath_plan.specs.declared.plan_node.StepTest.TheVariants as t
use Rattle.xpath_plan.specs.Plans.{test_seen}
use Rattle.xpath_walks.specs.declared.walk.Way.TheVariants as w
use Rattle.xpath_walks.specs.Order.{node_items}
use Rattle.xpath_walks.specs.Tests.{numbers_of}
use Rattle.xpath_walks.specs.Walks.{is_on_way, walked, axis_numbers}
use Rattle.xpath_walks.proofs.children.numbered_items.Given as goal

abbrev pub invariant-children : goal.invariant-children
invariant-children g l = record {
  within : IfSome l.next (λ m. m < length l.doc.nodes);
  on : IfSome l.next (λ m. is_on_way (w.Children l.fn.from) (tree_node (tree_nodes l.doc) m) ≡ true);
  left : (names : List Name) → l.numbers ≡ numbers_of l.doc.names names
      → l.out.items ++ node_items (walked (w.Children l.fn.from) (tree_nodes l.doc) l.next 4294967295 a.Child (test_seen names (t.Named l.k)))
      ≡ l.initial.out.items ++ node_items (axis_numbers (tree_nodes l.doc) a.Child l.fn.from (test_seen names (t.Named l.k)));
}

abbrev pub decreases-children : goal.decreases-children
decreases-children g l = elim l.next [ None ↦ 0 | Some n ↦ length l.doc.nodes - n ]
