use Rattle.std.proofs.Common.{◌≡◌, ◌++◌, drop}
use Rattle.bind_table.proofs.extending.add_names.Given as goal

abbrev pub invariant-names : goal.invariant-names
invariant-names l = l.names ++ drop l.name-index l.further ≡ l.initial.names ++ l.further
