use Rattle.std.proofs.Common.{◌≡◌, drop}
use Rattle.std.specs.List.{list_any}
use Rattle.xpath_meaning.specs.Steps.{is_node}
use Rattle.item_listing.proofs.items.has_node.Given as goal

abbrev pub invariant-items : goal.invariant-items
invariant-items l = list_any is_node (drop l.item-index l.items) ≡ list_any is_node l.items
