use Rattle.std.proofs.Common.{◌≡◌, drop}
use Rattle.bind_rows.specs.Added.{built}
use Rattle.bind_table.specs.WellFormed.{first_carrier}
use Rattle.bind_table.proofs.judging.first_carrier.Given as goal

abbrev pub invariant-rows : goal.invariant-rows
invariant-rows l = first_carrier l.group (built (drop l.row-index l.rows)) ≡ first_carrier l.group (built l.rows)
