use Rattle.std.proofs.Common.{◌≡◌, drop}
use Rattle.xpath_meaning.specs.Collections.{foremost}
use Rattle.xpath_values.specs.Alike.{goes_before}
use Rattle.xpath_values.proofs.totals.foremost.Given as goal

abbrev pub invariant-items : goal.invariant-items
invariant-items l = foremost (goes_before l.greatest) l.best (drop l.item-index l.rest) ≡ foremost (goes_before l.greatest) l.first l.rest
