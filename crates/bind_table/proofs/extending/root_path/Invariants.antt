use Rattle.std.proofs.Common.{◌≡◌, drop}
use Rattle.bind_rows.specs.Added.{built}
use Rattle.bind_table.specs.Extending.{root_path}
use Rattle.bind_table.proofs.extending.root_path.Given as goal

abbrev pub invariant-rows : goal.invariant-rows
invariant-rows l = root_path (built (drop l.row-index l.rows)) ≡ root_path (built l.rows)
