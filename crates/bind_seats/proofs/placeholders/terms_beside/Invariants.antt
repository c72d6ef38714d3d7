use Rattle.std.proofs.Common.{◌≡◌, ◌++◌, drop}
use Rattle.bind_seats.specs.Placeholders.{terms_beside}
use Rattle.bind_seats.proofs.placeholders.terms_beside.Given as goal

abbrev pub invariant-rows : goal.invariant-rows
invariant-rows l = l.terms.items ++ terms_beside (drop l.row-index l.rows) ≡ terms_beside l.rows
