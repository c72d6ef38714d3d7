use Rattle.std.proofs.Common.{◌≡◌, drop}
use Rattle.xpath_steps.specs.Numbers.{rise_behind}
use Rattle.xpath_steps.proofs.nodes.rise_behind.Given as goal

abbrev pub invariant-items : goal.invariant-items
invariant-items l = rise_behind l.last (drop l.item-index l.items) ≡ rise_behind l.initial.last l.items
