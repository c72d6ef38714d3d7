use Rattle.xpath_steps.proofs.NodeLemmas.{ordered_is}
use Rattle.xpath_steps.proofs.nodes.ordered.Goals as goal

pub returns : goal.returns
returns c =
    ordered_is c.args.doc.now c.args.nodes.items c.in_order.result.items c.deref.result.now c.of_nodes.result c.documents_are_walkable.ensures
    c.in_order.ensures.items c.deref.ensures.value c.of_nodes.ensures
