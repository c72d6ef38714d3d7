use Rattle.std.proofs.Common.{◌≡◌, ◌+◌, drop}
use Rattle.bind_seats.specs.Currency.{first_node}
use Rattle.bind_seats.proofs.currencies.first_node.Given as goal

abbrev pub invariant-rows : goal.invariant-rows
invariant-rows l = first_node l.term (l.k + 1) (drop l.k l.rows) l.picks ≡ first_node l.term 1 l.rows l.picks
