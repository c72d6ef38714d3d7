use Rattle.std.proofs.Common.{◌≡◌, drop}
use Rattle.bind_seats.specs.Currency.{node_of_row}
use Rattle.bind_seats.proofs.currencies.node_of_row.Given as goal

abbrev pub invariant-picks : goal.invariant-picks
invariant-picks l = node_of_row l.number (drop l.pick-index l.picks) ≡ node_of_row l.number l.picks
