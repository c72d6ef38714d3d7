use Rattle.std.proofs.Common.{length}
use Rattle.node_arena.specs.Moves.{tree_nodes}
use Rattle.xpath_walks.proofs.WalkLemmas.{on_all, on_before, on_children, on_attributes}
use Rattle.xpath_walks.proofs.walk.next_on.Goals as goal

pub returns-in-All-clause-next : goal.returns-in-All-clause-next
returns-in-All-clause-next g c =
    let doc = c.documents_are_walkable.ensures in
    on_all c.args.way.now (tree_nodes c.args.doc.now) c.args.n (length c.args.doc.now.nodes) c.next_node.result c.in-All.is doc.long doc.walkable.counted
    c.next_node.ensures.node

pub returns-in-Before-clause-next : goal.returns-in-Before-clause-next
returns-in-Before-clause-next g c =
    let doc = c.documents_are_walkable.ensures in
    on_before c.args.way.now c.in-Before.field-0 (tree_nodes c.args.doc.now) c.args.n
    (length c.args.doc.now.nodes) c.next_node-in-Before.result c.in-Before.is doc.long
    doc.walkable.counted c.next_node-in-Before.ensures.node

pub returns-in-Children-clause-next : goal.returns-in-Children-clause-next
returns-in-Children-clause-next g c =
    on_children c.args.way.now c.in-Children.field-0 (tree_nodes c.args.doc.now) c.args.n c.next_sibling.result c.in-Children.is c.requires.on
    c.next_sibling.ensures.node

pub returns-in-Attributes-clause-next : goal.returns-in-Attributes-clause-next
returns-in-Attributes-clause-next g c =
    on_attributes c.args.way.now c.in-Attributes.field-0 (tree_nodes c.args.doc.now) c.args.n c.next_attribute.result c.in-Attributes.is c.requires.on
    c.next_attribute.ensures.node
