use Rattle.std.proofs.Common.{◌≡◌, drop}
use Rattle.xpath_operators.specs.Rows.{rows, is_in}
use Rattle.xpath_operators.proofs.searching.some_is_in.Given as goal

abbrev pub invariant-xs : goal.invariant-xs
invariant-xs l = rows l.other (is_in l.ranked) (drop l.x-index l.xs) ≡ rows l.other (is_in l.ranked) l.xs
