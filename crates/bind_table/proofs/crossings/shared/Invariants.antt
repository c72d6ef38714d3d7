use Rattle.std.proofs.Common.{◌≡◌, ◌+◌, length}
use Rattle.bind_table.specs.Crossings.{shared}
use Rattle.bind_table.proofs.crossings.shared.Given as goal

abbrev pub invariant-steps : goal.invariant-steps
invariant-steps l = (l.count + shared l.xs l.ys ≡ shared l.a l.b) × (l.count + length l.xs ≡ length l.a)

abbrev pub decreases-steps : goal.decreases-steps
decreases-steps l = length l.xs
