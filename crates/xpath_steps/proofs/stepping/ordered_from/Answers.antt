use Rattle.std.proofs.Common.{◌≡◌, IfOk, length, subst, sym}
use Rattle.node_arena.specs.Moves.{tree_nodes}
use Rattle.xpath_meaning.specs.Steps.{in_document_order}
use Rattle.xpath_operators.specs.Nodes.{AreWithin}
use Rattle.xpath_plan.specs.Plans.{test_seen}
use Rattle.xpath_walks.specs.Order.{node_items}
use Rattle.xpath_steps.proofs.NodeLemmas.{document_below}
use Rattle.xpath_steps.proofs.PathLemmas.{axis_within}
use Rattle.xpath_steps.proofs.stepping.ordered_from.Goals as goal

pub returns-in_ok-items-in-Some : goal.returns-in_ok-items-in-Some
returns-in_ok-items-in-Some g c = λ names is.
    let nodes = tree_nodes c.args.doc.now in
    let count = length c.args.doc.now.nodes in
    let items = c.in_ok-items-in-Some.ensures names is in
    subst (λ xs. IfOk c.put_in_order.result (λ found. found ≡ in_document_order nodes xs)) items
    (c.put_in_order.ensures (subst (AreWithin count) (sym items)
    (axis_within count nodes c.args.step.now.axis (test_seen names c.args.step.now.test.now) c.args.from
    (document_below c.args.doc.now c.documents_are_walkable.ensures))))

pub returns-in_ok-nodes-in-None : goal.returns-in_ok-nodes-in-None
returns-in_ok-nodes-in-None g c = λ names is.
    let nodes = tree_nodes c.args.doc.now in
    let count = length c.args.doc.now.nodes in
    let numbers = c.in_ok-nodes-in-None.ensures names is in
    subst (λ ns. IfOk c.ordered.result (λ items. items ≡ in_document_order nodes (node_items ns))) numbers
    (c.ordered.ensures (subst (λ ns. AreWithin count (node_items ns)) (sym numbers)
    (axis_within count nodes c.args.step.now.axis (test_seen names c.args.step.now.test.now) c.args.from
    (document_below c.args.doc.now c.documents_are_walkable.ensures))))
