use Rattle.std.proofs.Common.{◌≡◌, drop}
use Rattle.bind_table.specs.WellFormed.{is_ambiguous, clashes_from}
use Rattle.bind_table.proofs.judging.is_ambiguous.Given as goal

abbrev pub invariant-rows : goal.invariant-rows
invariant-rows l = clashes_from l.n (drop l.n l.rows) l.k l.row ≡ is_ambiguous l.rows l.k l.row
