use Rattle.std.proofs.Common.{◌∙◌, ap, sym}
use Rattle.xpath_steps.specs.Numbers.{rise}
use Rattle.xpath_steps.proofs.RiseLemmas.{rise_ordered}
use Rattle.xpath_steps.proofs.nodes.put_in_order.Goals as goal

pub returns-then-are_rising : goal.returns-then-are_rising
returns-then-are_rising c = λ within.
    rise_ordered c.args.doc.now c.args.items c.documents_are_walkable.ensures c.rising_nodes_are_in_order.ensures
    (ap rise (sym c.as_slice.ensures) ∙ (sym c.are_rising.ensures ∙ c.if-are_rising.true)) within
