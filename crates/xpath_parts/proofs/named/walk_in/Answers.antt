use Rattle.xpath_parts.proofs.NamedLemmas.{plain-of_simple, plain-of_node, node_some}
use Rattle.xpath_parts.proofs.named.walk_in.Goals as goal

pub returns-in-Simple-clause-form : goal.returns-in-Simple-clause-form
returns-in-Simple-clause-form c = plain-of_simple c.args.work.now _ c.in-Simple.is

pub returns-in-Node-clause-form : goal.returns-in-Node-clause-form
returns-in-Node-clause-form c = plain-of_node c.args.work.now c.in-Node.kind c.in-Node.parts c.as_slice.result.now c.walk_by.result c.in-Node.is
    c.as_slice.ensures c.walk_by.ensures.form

pub returns-in-Node-clause-work : goal.returns-in-Node-clause-work
returns-in-Node-clause-work c = node_some c.args.work.now c.in-Node.kind c.in-Node.parts c.as_slice.result.now c.walk_by.result c.in-Node.is
    c.as_slice.ensures c.walk_by.ensures.work
