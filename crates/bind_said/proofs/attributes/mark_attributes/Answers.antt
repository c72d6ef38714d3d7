use Rattle.node_arena.specs.Moves.{is_attribute_of, tree_nodes, first_attribute, next_attribute}
use Rattle.bind_said.specs.Saying.{named}
use Rattle.bind_said.proofs.LoopLemmas.{marking-step, marking-end}
use Rattle.bind_said.proofs.attributes.mark_attributes.Goals as goal

pub attributes-preserved : goal.attributes-preserved
attributes-preserved g c =
    let d = c.args.input.now.doc.now in
    marking-step (is_attribute_of c.args.n) d (named d c.args.name) c.args.marks.now.items (first_attribute (tree_nodes d) c.args.n)
    (next_attribute (tree_nodes d)) (c.chains_lead_on.ensures.attributes c.args.n)
    c.attributes.at c.in-Some.m c.next_attribute-at.result c.attributes.marks.items c.mark_named.new.marks.items
    c.in-Some.is c.attributes.invariant c.mark_named.ensures c.next_attribute-at.ensures.node

pub returns : goal.returns
returns g c =
    let d = c.args.input.now.doc.now in
    marking-end (is_attribute_of c.args.n) d (named d c.args.name) c.args.marks.now.items c.attributes.at c.attributes.marks.items
    c.in_default.is c.attributes.invariant
