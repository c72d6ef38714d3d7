use Rattle.std.proofs.Common.{◌≡◌, map, take}
use Rattle.bind_walk.specs.Found.{found_guard}
use Rattle.bind_walk.proofs.guards.find_guards.Given as goal

abbrev pub invariant-guards : goal.invariant-guards
invariant-guards l = l.found ≡ map (found_guard l.doc) (take l.guard-index l.guards)
