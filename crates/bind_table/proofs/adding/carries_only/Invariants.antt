use Rattle.std.proofs.Common.{◌≡◌, drop}
use Rattle.bind_table.specs.WellFormed.{carries_only}
use Rattle.bind_table.proofs.adding.carries_only.Given as goal

abbrev pub invariant-steps : goal.invariant-steps
invariant-steps l = carries_only l.left (drop l.step-index l.path) ≡ carries_only l.fn.group l.path
