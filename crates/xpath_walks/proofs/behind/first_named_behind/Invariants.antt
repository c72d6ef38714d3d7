use Rattle.std.proofs.Common.{◌≡◌, ◌-◌, ◌<◌, ◌≤◌, List, Some, None, length, IfSome}
use Rattle.inv_base.specs.Tree.{Name}
use Rattle.node_arena.specs.Moves.{tree_nodes}
use Rattle.xpath_plan.specs.declared.plan_node.StepTest.TheVariants as t
use Rattle.xpath_plan.specs.Plans.{test_seen}
use Rattle.xpath_walks.specs.Tests.{numbers_of}
use Rattle.xpath_walks.specs.Walks.{has_wanted}
use Rattle.xpath_walks.proofs.BehindLemmas.{IsAhead}
use Rattle.xpath_walks.proofs.behind.first_named_behind.Given as goal

abbrev pub invariant-chain : goal.invariant-chain
invariant-chain g l = record {
  long : l.from ≤ l.here;
  within : l.here < length l.doc.nodes;
  node : IfSome l.ahead (λ m. m < length l.doc.nodes);
  ahead : (names : List Name) → l.numbers ≡ numbers_of l.doc.names names
      → IsAhead (has_wanted (test_seen names (t.Named l.k))) l.from l.here l.ahead l.fn.steps l.steps (tree_nodes l.doc);
}

abbrev pub decreases-chain : goal.decreases-chain
decreases-chain g l = elim l.ahead [ None ↦ 0 | Some m ↦ length l.doc.nodes - m ]
