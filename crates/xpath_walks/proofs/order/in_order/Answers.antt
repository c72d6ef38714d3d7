use Rattle.std.proofs.Common.{◌∙◌, sym, ap}
use Rattle.xpath_walks.specs.Order.{rises}
use Rattle.xpath_walks.proofs.OrderLemmas.{rising, ordered, items_ordered}
use Rattle.xpath_walks.proofs.order.in_order.Goals as goal

pub returns-then-is_rising : goal.returns-then-is_rising
returns-then-is_rising c =
    let rise = ap rises (sym c.as_slice.ensures.value) ∙ (sym c.is_rising.ensures ∙ c.if-is_rising.true) in
    record {
      numbers = λ all h. rising all c.args.nodes.items h rise;
      items = λ all h. items_ordered all c.args.nodes.items c.args.nodes.items (rising all c.args.nodes.items h rise);
    }

pub returns-else-is_rising : goal.returns-else-is_rising
returns-else-is_rising c =
    let of = c.sorted.ensures in
    record {
      numbers = λ all h. ordered all c.args.nodes.items c.sorted.result.items h of.rises of.same;
      items = λ all h. items_ordered all c.args.nodes.items c.sorted.result.items (ordered all c.args.nodes.items c.sorted.result.items h of.rises of.same);
    }
