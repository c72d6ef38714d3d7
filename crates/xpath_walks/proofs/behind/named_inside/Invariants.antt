use Rattle.std.proofs.Common.{◌≡◌, ◌+◌, ◌-◌, ◌*◌, ◌<◌, ◌≤◌, ◌++◌, List, Some, None, length, true, IfSome}
use Rattle.inv_base.specs.Tree.{Name}
use Rattle.node_arena.specs.Moves.{tree_nodes, tree_node}
use Rattle.xpath_grammar.specs.declared.step.Axis.TheVariants as a
use Rattle.xpath_plan.specs.Plans.{test_seen}
use Rattle.xpath_walks.specs.declared.walk.Way.TheVariants as w
use Rattle.xpath_walks.specs.Tests.{numbers_of}
use Rattle.xpath_walks.specs.Walks.{found_on, has_wanted, walked, chain_of, chain_from}
use Rattle.xpath_walks.proofs.behind.named_inside.Given as goal

abbrev pub invariant-chain : goal.invariant-chain
invariant-chain g l = record {
  within : IfSome l.next (λ m. m < length l.doc.nodes);
  on : (names : List Name) → l.step.numbers.now ≡ numbers_of l.doc.names names
      → IfSome l.next (λ m. has_wanted (test_seen names l.step.test.now) (tree_node (tree_nodes l.doc) m) ≡ true);
  left : (names : List Name) → l.step.numbers.now ≡ numbers_of l.doc.names names
      → l.out.items ++ walked w.All (tree_nodes l.doc) l.next l.last l.step.axis (test_seen names l.step.test.now)
      ≡ l.initial.out.items ++ found_on a.Descendant l.step.axis (tree_nodes l.doc) l.fn.from (test_seen names l.step.test.now);
  cost : (names : List Name) → l.step.numbers.now ≡ numbers_of l.doc.names names
      → l.steps + length (chain_from (tree_nodes l.doc) l.next (test_seen names l.step.test.now))
      ≤ l.fn.steps + (2 * length (chain_of (tree_nodes l.doc) (test_seen names l.step.test.now)) + 2);
}

abbrev pub decreases-chain : goal.decreases-chain
decreases-chain g l = elim l.next [ None ↦ 0 | Some n ↦ length l.doc.nodes - n ]
