use Rattle.std.proofs.Common.{◌≡◌, drop}
use Rattle.std.specs.Prelude.{find}
use Rattle.bind_carrying.specs.Carrying.{fails}
use Rattle.bind_carrying.proofs.conditions.first_at.Given as goal

abbrev pub invariant-entries : goal.invariant-entries
invariant-entries l = find (fails l.condition l.table l.i) (drop l.e-index l.entries) ≡ find (fails l.condition l.table l.i) l.entries
