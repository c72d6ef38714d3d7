use Rattle.std.proofs.Common.{◌≡◌, drop}
use Rattle.bind_carrying.specs.Carrying.{first_failing}
use Rattle.bind_carrying.proofs.carrying.first_failing.Given as goal

abbrev pub invariant-conditions : goal.invariant-conditions
invariant-conditions l = first_failing (drop l.condition-index l.conditions) l.table l.i ≡ first_failing l.conditions l.table l.i
