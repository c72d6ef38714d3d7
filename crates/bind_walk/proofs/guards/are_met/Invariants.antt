use Rattle.std.proofs.Common.{◌≡◌, drop}
use Rattle.std.specs.List.{list_all}
use Rattle.bind_walk.specs.Found.{is_met}
use Rattle.bind_walk.proofs.guards.are_met.Given as goal

abbrev pub invariant-guards : goal.invariant-guards
invariant-guards g l = list_all (is_met l.input.doc.now l.n) (drop l.guard-index l.guards) ≡ list_all (is_met l.input.doc.now l.n) l.guards
