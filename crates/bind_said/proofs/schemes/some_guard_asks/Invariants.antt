use Rattle.std.proofs.Common.{◌≡◌, drop}
use Rattle.std.specs.List.{list_any}
use Rattle.bind_meaning.specs.Said.{asks_for_sepa}
use Rattle.bind_said.proofs.schemes.some_guard_asks.Given as goal

abbrev pub invariant-guards : goal.invariant-guards
invariant-guards l = list_any asks_for_sepa (drop l.guard-index l.guards) ≡ list_any asks_for_sepa l.guards
