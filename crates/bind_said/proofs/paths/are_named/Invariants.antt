use Rattle.std.proofs.Common.{◌≡◌, drop}
use Rattle.std.specs.List.{list_all}
use Rattle.bind_said.specs.Saying.{is_named}
use Rattle.bind_said.proofs.paths.are_named.Given as goal

abbrev pub invariant-path : goal.invariant-path
invariant-path l = list_all is_named (drop l.step-index l.path) ≡ list_all is_named l.path
