use Rattle.std.proofs.Common.{◌-◌, ◌≤◌, length}
use Rattle.inv_base.proofs.FrontLemmas.{NoneBefore}
use Rattle.inv_base.proofs.fronts.front_of_few.Given as goal

abbrev pub invariant-bytes : goal.invariant-bytes
invariant-bytes g l = record {
  within : l.count ≤ length l.bytes;
  none : NoneBefore g.S.Stops.stops l.bytes l.count;
}

abbrev pub decreases-bytes : goal.decreases-bytes
decreases-bytes g l = length l.bytes - l.count
