use Rattle.std.proofs.Common.{◌≡◌, drop}
use Rattle.bind_rows.specs.Added.{built}
use Rattle.bind_table.specs.WellFormed.{is_rooted}
use Rattle.bind_table.proofs.judging.is_rooted.Given as goal

abbrev pub invariant-rows : goal.invariant-rows
invariant-rows l = is_rooted (built (drop l.first-index l.rows)) l.row ≡ is_rooted (built l.rows) l.row
