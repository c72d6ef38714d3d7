use Rattle.std.proofs.Common.{◌≡◌, ◌++◌, List, drop}
use Rattle.inv_base.specs.Tree.{Name}
use Rattle.node_arena.specs.Moves.{tree_nodes}
use Rattle.xpath_plan.specs.Plans.{test_seen}
use Rattle.xpath_steps.specs.Steps.{numbers_over}
use Rattle.xpath_walks.specs.Order.{node_items}
use Rattle.xpath_walks.specs.Tests.{numbers_of}
use Rattle.xpath_steps.proofs.children.children_over.Given as goal

abbrev pub invariant-items : goal.invariant-items
invariant-items g l = (names : List Name) → l.step.numbers.now ≡ numbers_of l.doc.names names
    → l.found.items ++ node_items (numbers_over (tree_nodes l.doc) l.step.axis (test_seen names l.step.test.now) (drop l.item-index l.items))
    ≡ node_items (numbers_over (tree_nodes l.doc) l.step.axis (test_seen names l.step.test.now) l.items)
