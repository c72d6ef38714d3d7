use Rattle.xpath_walks.proofs.OrderLemmas.{rising, items_ordered}
use Rattle.xpath_walks.proofs.order.rising_nodes_are_in_order.Goals as goal

pub returns : goal.returns
returns c = λ all ns h r. items_ordered all ns ns (rising all ns h r)
