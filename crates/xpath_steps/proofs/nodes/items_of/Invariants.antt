use Rattle.std.proofs.Common.{◌≡◌, take}
use Rattle.xpath_walks.specs.Order.{node_items}
use Rattle.xpath_steps.proofs.nodes.items_of.Given as goal

abbrev pub invariant-nodes : goal.invariant-nodes
invariant-nodes l = l.items.items ≡ node_items (take l.node-index l.nodes)
