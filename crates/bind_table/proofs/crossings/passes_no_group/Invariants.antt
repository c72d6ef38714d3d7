use Rattle.std.proofs.Common.{◌≡◌, length}
use Rattle.bind_table.specs.Crossings.{passes_no_group}
use Rattle.bind_table.proofs.crossings.passes_no_group.Given as goal

abbrev pub invariant-steps : goal.invariant-steps
invariant-steps l = passes_no_group l.group l.xs l.ys ≡ passes_no_group l.group l.a l.b

abbrev pub decreases-steps : goal.decreases-steps
decreases-steps l = length l.xs
