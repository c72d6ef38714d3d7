use Rattle.std.proofs.Common.{◌≡◌, take}
use Rattle.xpath_steps.proofs.lending.copied.Given as goal

abbrev pub invariant-items : goal.invariant-items
invariant-items l = l.copy.items ≡ take l.item-index l.items
