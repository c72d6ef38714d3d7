use Rattle.std.proofs.Common.{◌≡◌, length}
use Rattle.bind_table.specs.Parting.{part_paths}
use Rattle.bind_table.proofs.parting.part_paths.Given as goal

abbrev pub invariant-steps : goal.invariant-steps
invariant-steps l = part_paths l.xs l.ys ≡ part_paths l.a l.b

abbrev pub decreases-steps : goal.decreases-steps
decreases-steps l = length l.xs
