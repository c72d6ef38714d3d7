use Rattle.std.proofs.Common.{◌≡◌, ◌++◌, drop, Ok}
use Rattle.xpath_meaning.specs.Values.{then_}
use Rattle.xpath_meaning.specs.Collections.{all_taken, untyped_read}
use Rattle.xpath_values.proofs.totals.all_read.Given as goal

abbrev pub invariant-items : goal.invariant-items
invariant-items l = then_ (all_taken untyped_read (drop l.item-index l.items)) (λ ys. Ok (l.read ++ ys)) ≡ all_taken untyped_read l.items
