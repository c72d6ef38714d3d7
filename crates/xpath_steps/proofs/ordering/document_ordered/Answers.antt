use Rattle.std.proofs.Common.{◌∙◌, ap, sym, length, Ok}
use Rattle.node_arena.specs.Moves.{tree_nodes}
use Rattle.xpath_walks.specs.Order.{node_items}
use Rattle.xpath_steps.proofs.NodeLemmas.{order_among, among_within, order_within}
use Rattle.xpath_steps.proofs.ordering.document_ordered.Goals as goal

pub returns-clause-value : goal.returns-clause-value
returns-clause-value c =
    let items = c.args.items.now in
    let within = among_within (length c.args.doc.now.nodes) items c.in_ok-nodes.nodes.items c.in_ok-nodes.ensures c.requires in
    ap Ok (sym (order_among (tree_nodes c.args.doc.now) items c.in_ok-nodes.nodes.items c.in_ok-nodes.ensures) ∙ sym (c.in_ok-ordered.ensures within))

pub returns-clause-within : goal.returns-clause-within
returns-clause-within c =
    let within = among_within (length c.args.doc.now.nodes) c.args.items.now c.in_ok-nodes.nodes.items c.in_ok-nodes.ensures c.requires in
    order_within c.args.doc.now (node_items c.in_ok-nodes.nodes.items) c.in_ok-ordered.field-0 c.documents_are_walkable.ensures (c.in_ok-ordered.ensures within)
