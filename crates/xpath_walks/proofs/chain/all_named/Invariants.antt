use Rattle.std.proofs.Common.{◌≡◌, ◌+◌, ◌-◌, ◌<◌, ◌≤◌, ◌++◌, List, Some, None, length, true, IfSome}
use Rattle.inv_base.specs.Tree.{Name}
use Rattle.node_arena.specs.Moves.{tree_nodes, tree_node}
use Rattle.xpath_grammar.specs.declared.step.Axis.TheVariants as a
use Rattle.xpath_plan.specs.Plans.{test_seen}
use Rattle.xpath_walks.specs.Tests.{numbers_of}
use Rattle.xpath_walks.specs.Walks.{found_on, has_wanted, taken_from, chain_of, chain_from}
use Rattle.xpath_walks.proofs.chain.all_named.Given as goal

abbrev pub invariant-chain : goal.invariant-chain
invariant-chain g l = record {
  within : IfSome l.next (λ m. m < length l.doc.nodes);
  on : (names : List Name) → l.step.numbers.now ≡ numbers_of l.doc.names names
      → IfSome l.next (λ m. has_wanted (test_seen names l.step.test.now) (tree_node (tree_nodes l.doc) m) ≡ true);
  left : (names : List Name) → l.step.numbers.now ≡ numbers_of l.doc.names names
      → l.out.items ++ taken_from (tree_nodes l.doc) l.next l.step.axis (test_seen names l.step.test.now)
      ≡ l.initial.out.items ++ found_on a.Descendant l.step.axis (tree_nodes l.doc) 0 (test_seen names l.step.test.now);
  most : (names : List Name) → l.step.numbers.now ≡ numbers_of l.doc.names names
      → l.steps + length (chain_from (tree_nodes l.doc) l.next (test_seen names l.step.test.now))
      ≤ l.fn.steps + (length (chain_of (tree_nodes l.doc) (test_seen names l.step.test.now)) + 1);
  least : (names : List Name) → l.step.numbers.now ≡ numbers_of l.doc.names names
      → l.fn.steps + length (chain_of (tree_nodes l.doc) (test_seen names l.step.test.now))
      ≤ l.steps + length (chain_from (tree_nodes l.doc) l.next (test_seen names l.step.test.now));
}

abbrev pub decreases-chain : goal.decreases-chain
decreases-chain g l = elim l.next [ None ↦ 0 | Some n ↦ length l.doc.nodes - n ]
