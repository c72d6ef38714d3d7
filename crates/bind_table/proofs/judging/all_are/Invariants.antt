use Rattle.std.proofs.Common.{◌≡◌, drop, Some}
use Rattle.bind_rows.specs.Added.{built}
use Rattle.bind_table.specs.WellFormed.{all_are}
use Rattle.bind_table.proofs.judging.all_are.Given as goal

abbrev pub invariant-rows : goal.invariant-rows
invariant-rows l = all_are l.group (built (drop l.row-index l.rows)) (Some l.first) ≡ all_are l.group (built l.rows) (Some l.first)
