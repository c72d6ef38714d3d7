use Rattle.std.proofs.Common.{◌≡◌, drop}
use Rattle.bind_rows.specs.Added.{built}
use Rattle.bind_table.specs.WellFormed.{first_fault, first_fault_from}
use Rattle.bind_table.proofs.judging.first_fault.Given as goal

abbrev pub invariant-rows : goal.invariant-rows
invariant-rows l = first_fault_from l.rows (built l.rows) l.k (drop l.k l.rows) ≡ first_fault l.rows
