use Rattle.std.proofs.Common.{◌≡◌, drop}
use Rattle.xpath_meaning.specs.Comparing.{some_pair}
use Rattle.xpath_operators.proofs.comparisons.some_pair.Given as goal

abbrev pub invariant-xs : goal.invariant-xs
invariant-xs l = some_pair l.op (drop l.x-index l.xs) l.ys ≡ some_pair l.op l.xs l.ys
