use Rattle.std.proofs.Common.{◌≡◌, ◌++◌, drop}
use Rattle.bind_seats.specs.Occurrences.{all_seated, IsOuterSeat}
use Rattle.bind_seats.proofs.occurrences.all_seated.Given as goal

abbrev pub invariant-picks : goal.invariant-picks
invariant-picks l = record {
  seated : l.seats.items ++ all_seated l.rows l.outers.items l.inners.items (drop l.pick-index l.picks)
      ≡ all_seated l.rows l.outers.items l.inners.items l.picks;
  last : IsOuterSeat l.outers.items l.last;
}
