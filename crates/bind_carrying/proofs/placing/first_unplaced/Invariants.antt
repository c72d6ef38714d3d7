use Rattle.std.proofs.Common.{◌≡◌, drop}
use Rattle.std.specs.Prelude.{find}
use Rattle.bind_carrying.specs.Carrying.{is_unplaced}
use Rattle.bind_carrying.proofs.placing.first_unplaced.Given as goal

abbrev pub invariant-entries : goal.invariant-entries
invariant-entries l = find (is_unplaced l.rows) (drop l.e-index l.entries) ≡ find (is_unplaced l.rows) l.entries
