use Rattle.std.proofs.Common.{ap, sym, Ok}
use Rattle.xpath_steps.proofs.NodeLemmas.{order_within}
use Rattle.xpath_steps.proofs.ordering.settled.Goals as goal

pub returns-clause-value : goal.returns-clause-value
returns-clause-value c = ap Ok (sym (c.in_ok-put_in_order.ensures c.requires))

pub returns-clause-within : goal.returns-clause-within
returns-clause-within c =
    order_within c.args.doc.now c.args.items c.in_ok-put_in_order.field-0 c.documents_are_walkable.ensures (c.in_ok-put_in_order.ensures c.requires)
