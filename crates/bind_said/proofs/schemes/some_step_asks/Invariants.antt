use Rattle.std.proofs.Common.{◌≡◌, drop}
use Rattle.std.specs.List.{list_any}
use Rattle.bind_said.specs.Saying.{step_asks}
use Rattle.bind_said.proofs.schemes.some_step_asks.Given as goal

abbrev pub invariant-path : goal.invariant-path
invariant-path l = list_any step_asks (drop l.step-index l.path) ≡ list_any step_asks l.path
