use Rattle.std.proofs.Common.{◌≡◌, length}
use Rattle.bind_table.specs.Crossings.{is_front}
use Rattle.bind_table.proofs.crossings.is_front.Given as goal

abbrev pub invariant-steps : goal.invariant-steps
invariant-steps l = is_front l.xs l.ys ≡ is_front l.a l.b

abbrev pub decreases-steps : goal.decreases-steps
decreases-steps l = length l.xs
