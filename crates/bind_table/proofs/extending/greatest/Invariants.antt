use Rattle.std.proofs.Common.{◌≡◌, drop}
use Rattle.std.specs.Prelude.{fold}
use Rattle.bind_table.specs.Extending.{greatest_on, greatest}
use Rattle.bind_table.proofs.extending.greatest.Given as goal

abbrev pub invariant-rows : goal.invariant-rows
invariant-rows l = fold greatest_on l.most (drop l.row-index l.rows) ≡ greatest l.rows
