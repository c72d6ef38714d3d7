use Rattle.std.proofs.Common.{length}
use Rattle.node_arena.specs.Moves.{tree_nodes}
use Rattle.xpath_plan.specs.Plans.{test_seen}
use Rattle.xpath_steps.proofs.WithinLemmas.{item_within}
use Rattle.xpath_steps.proofs.PathLemmas.{over_end}
use Rattle.xpath_steps.proofs.stepping.nodes_over.Goals as goal

pub take_from-requires : goal.take_from-requires
take_from-requires g c = item_within (length c.args.doc.now.nodes) c.args.items.now c.items.item-index c.item-item.result c.requires c.items-test.true
    c.item-item.is

pub returns : goal.returns
returns g c = λ names is.
    over_end (tree_nodes c.args.doc.now) c.args.step.now.axis (test_seen names c.args.step.now.test.now) c.args.items.now c.items.item-index c.items.nodes.items
    _ c.items-test.false (c.items.invariant names is)
