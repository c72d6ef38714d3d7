use Rattle.std.proofs.Common.{◌≡◌, ◌++◌, ◌-◌, pos, ◌+ℤ◌}
use Rattle.std.specs.Prelude.{◌*ℤ◌}
use Rattle.inv_decimal.specs.Number.{unit}
use Rattle.xpath_meaning.specs.Numbers.{in_a_row}
use Rattle.xpath_operators.proofs.ranges.in_a_row.Given as goal

abbrev pub invariant-numbers : goal.invariant-numbers
invariant-numbers l = l.items.items ++ in_a_row (l.count - l.i) ((l.from +ℤ pos l.i) *ℤ pos unit) ≡ in_a_row l.count (l.from *ℤ pos unit)
