use Rattle.std.proofs.Common.{◌≡◌, length}
use Rattle.bind_table.specs.Extending.{at_names}
use Rattle.bind_table.proofs.extending.at_names.Given as goal

abbrev pub invariant-steps : goal.invariant-steps
invariant-steps l = at_names l.ns l.ss ≡ at_names l.names l.path

abbrev pub decreases-steps : goal.decreases-steps
decreases-steps l = length l.ns
