use Rattle.std.proofs.Common.{◌≡◌, drop}
use Rattle.bind_table.specs.WellFormed.{parts_from}
use Rattle.bind_table.proofs.adding.parts_from.Given as goal

abbrev pub invariant-rows : goal.invariant-rows
invariant-rows l = parts_from (drop l.n l.rows) l.n l.k l.row ≡ parts_from l.rows 0 l.k l.row
