use Rattle.std.proofs.Common.{◌≡◌, drop, map, pos}
use Rattle.xpath_meaning.specs.Collections.{summed}
use Rattle.xpath_values.specs.Alike.{number_in}
use Rattle.xpath_values.proofs.totals.summed.Given as goal

abbrev pub invariant-items : goal.invariant-items
invariant-items l = summed l.total (map number_in (drop l.item-index l.items)) ≡ summed (pos 0) (map number_in l.items)
