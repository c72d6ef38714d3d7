use Rattle.std.proofs.Common.{◌≡◌, length}
use Rattle.std.specs.Cmp.Lexicographic.{pointwise}
use Rattle.bind_rows.proofs.same.are_same.Given as goal

abbrev pub invariant-items : goal.invariant-items
invariant-items g l = pointwise g.T.Same.same l.xs l.ys ≡ pointwise g.T.Same.same l.a l.b

abbrev pub decreases-items : goal.decreases-items
decreases-items g l = length l.xs
