use Rattle.std.proofs.Common.{◌∙◌, ap, sym, Ok}
use Rattle.node_arena.specs.Moves.{tree_nodes}
use Rattle.xpath_plan.specs.Plans.{test_seen}
use Rattle.xpath_steps.specs.Steps.{stepped_seen}
use Rattle.xpath_walks.specs.Order.{node_items}
use Rattle.xpath_walks.specs.Walks.{axis_numbers}
use Rattle.xpath_steps.proofs.NodeLemmas.{order_within}
use Rattle.xpath_steps.proofs.PathLemmas.{stepped_at_node}
use Rattle.xpath_steps.proofs.stepping.stepped_from.Goals as goal

pub returns-in_ok-items-in-Node-clause-value : goal.returns-in_ok-items-in-Node-clause-value
returns-in_ok-items-in-Node-clause-value g c = λ names is.
    let nodes = tree_nodes c.args.doc.now in
    let axis = c.args.step.now.axis in
    let test = test_seen names c.args.step.now.test.now in
    ap (stepped_seen nodes axis test) c.in-Node.is ∙ (stepped_at_node nodes axis test c.in-Node.from ∙ ap Ok (sym (c.in_ok-items-in-Node.ensures names is)))

pub returns-in_ok-items-in-Node-clause-within : goal.returns-in_ok-items-in-Node-clause-within
returns-in_ok-items-in-Node-clause-within g c = λ names is.
    order_within c.args.doc.now (node_items (axis_numbers (tree_nodes c.args.doc.now) c.args.step.now.axis c.in-Node.from
    (test_seen names c.args.step.now.test.now)))
    c.in_ok-items-in-Node.items c.documents_are_walkable.ensures (c.in_ok-items-in-Node.ensures names is)
