use Rattle.std.proofs.Common.{◌≡◌, length}
use Rattle.std.specs.Cmp.Lexicographic.{pointwise}
use Rattle.bind_table.specs.Parting.{same_step_name}
use Rattle.bind_table.proofs.parting.have_same_names.Given as goal

abbrev pub invariant-steps : goal.invariant-steps
invariant-steps l = pointwise same_step_name l.xs l.ys ≡ pointwise same_step_name l.a l.b

abbrev pub decreases-steps : goal.decreases-steps
decreases-steps l = length l.xs
