use Rattle.bind_terms.proofs.Rooms.{Lacked}
use Rattle.bind_terms.proofs.violations.put_each.Given as goal

abbrev pub invariant-violations : goal.invariant-violations
invariant-violations g l = Lacked l.context l.element l.last l.violations (g.K.Keeper.given l.initial.keeper) l.violation-index (g.K.Keeper.given l.keeper)
