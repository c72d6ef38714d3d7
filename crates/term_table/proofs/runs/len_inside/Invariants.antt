use Rattle.std.proofs.Common.{◌≡◌, ℕ, ◌<◌, get_or, true}
use Rattle.term_table.specs.Contexts.{is_inside}
use Rattle.term_table.proofs.runs.len_inside.Given as goal

abbrev pub invariant-seats : goal.invariant-seats
invariant-seats g l = (i : ℕ) (d : _) → i < l.k → is_inside l.context (g.T.Seated.seat_of (get_or l.seats i d)).context ≡ true
