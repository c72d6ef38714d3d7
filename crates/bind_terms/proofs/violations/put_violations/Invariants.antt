use Rattle.std.proofs.Common.{map}
use Rattle.bind_terms.specs.Telling.{seat_of_first}
use Rattle.bind_terms.proofs.LastPick.{SeenUpTo}
use Rattle.bind_terms.specs.Inputs.{nodes_of}
use Rattle.bind_terms.proofs.violations.put_violations.Given as goal

abbrev pub invariant-picks : goal.invariant-picks
invariant-picks g l =
    SeenUpTo (nodes_of l.fn.input) (map seat_of_first l.firsts) (g.K.Keeper.given l.initial.keeper)
    l.picks l.pick-index l.last l.seen.places.keys (g.K.Keeper.given l.keeper)
