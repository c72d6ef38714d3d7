use Rattle.std.proofs.Common.{◌≡◌, take}
use Rattle.xpath_steps.specs.Numbers.{numbers_among}
use Rattle.xpath_steps.proofs.nodes.nodes_among.Given as goal

abbrev pub invariant-items : goal.invariant-items
invariant-items l = l.nodes.items ≡ numbers_among (take l.item-index l.items)
