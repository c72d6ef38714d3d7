use Rattle.std.proofs.Common.{◌≡◌, length}
use Rattle.bind_table.specs.Crossings.{part_by_name}
use Rattle.bind_table.proofs.crossings.part_by_name.Given as goal

abbrev pub invariant-steps : goal.invariant-steps
invariant-steps l = part_by_name l.xs l.ys ≡ part_by_name l.a l.b

abbrev pub decreases-steps : goal.decreases-steps
decreases-steps l = length l.xs
