use Rattle.std.proofs.Common.{◌-◌, ◌≤◌, length}
use Rattle.inv_base.proofs.FrontLemmas.{NoneBefore}
use Rattle.inv_base.proofs.fronts.front_len.Given as goal

abbrev pub invariant-pieces : goal.invariant-pieces
invariant-pieces g l = record {
  within : l.place ≤ length l.bytes;
  none : NoneBefore g.S.Stops.stops l.bytes l.place;
}

abbrev pub decreases-pieces : goal.decreases-pieces
decreases-pieces g l = length l.bytes - l.place
