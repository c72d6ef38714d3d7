use Rattle.std.proofs.Common.{◌∙◌, length}
use Rattle.node_arena.specs.Moves.{tree_nodes}
use Rattle.xpath_plan.specs.Plans.{test_seen}
use Rattle.xpath_steps.specs.Steps.{numbers_over}
use Rattle.xpath_walks.specs.Order.{node_items}
use Rattle.xpath_walks.specs.Walks.{axis_numbers}
use Rattle.xpath_steps.proofs.ChildLemmas.{over_more, over_done}
use Rattle.xpath_steps.proofs.WithinLemmas.{item_within}
use Rattle.xpath_steps.proofs.children.children_over.Goals as goal

pub take_children-requires-clause-within : goal.take_children-requires-clause-within
take_children-requires-clause-within g c =
    item_within (length c.args.doc.now.nodes) c.args.items.now c.items.item-index c.item-item.result c.requires.within c.items-test.true c.item-item.is

pub items-preserved : goal.items-preserved
items-preserved g c = λ names is.
    let nodes = tree_nodes c.args.doc.now in
    let axis = c.args.step.now.axis in
    let test = test_seen names c.args.step.now.test.now in
    over_more (λ n. axis_numbers nodes axis n test) c.args.items.now c.items.item-index c.item-item.result c.items.found.items c.take_children.new.out.items
    (node_items (numbers_over nodes axis test c.args.items.now)) c.items-test.true c.item-item.is (c.in_ok-take_children.ensures names is)
    (c.items.invariant names is)

pub returns : goal.returns
returns g c = λ names is.
    let nodes = tree_nodes c.args.doc.now in
    let axis = c.args.step.now.axis in
    let test = test_seen names c.args.step.now.test.now in
    c.of_items.ensures
    ∙ over_done (λ n. axis_numbers nodes axis n test) c.args.items.now c.items.item-index c.items.found.items
    (node_items (numbers_over nodes axis test c.args.items.now))
    c.items-test.false (c.items.invariant names is)
