use Rattle.std.proofs.Common.{◌≡◌, map, take}
use Rattle.bind_said.specs.Saying.{found_step}
use Rattle.bind_said.proofs.paths.find_steps.Given as goal

abbrev pub invariant-path : goal.invariant-path
invariant-path l = l.found.items ≡ map (found_step l.doc) (take l.step-index l.path)
