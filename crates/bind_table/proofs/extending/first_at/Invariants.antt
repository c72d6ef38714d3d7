use Rattle.std.proofs.Common.{◌≡◌, drop}
use Rattle.bind_table.specs.Extending.{first_at}
use Rattle.bind_table.proofs.extending.first_at.Given as goal

abbrev pub invariant-rows : goal.invariant-rows
invariant-rows l = first_at l.names (drop l.row-index l.rows) ≡ first_at l.names l.rows
