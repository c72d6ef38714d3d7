use Rattle.std.proofs.Common.{◌≡◌, Ok, map, take}
use Rattle.xpath_operators.specs.Rows.{row}
use Rattle.xpath_operators.proofs.rows.rows.Given as goal

abbrev pub invariant-items : goal.invariant-items
invariant-items l = map (row l.other) (take l.item-index l.items) ≡ map Ok l.read.items
