use Rattle.std.proofs.Common.{arith}
use Rattle.term_table.specs.Starts.{stands_ahead}
use Rattle.term_table.proofs.RunLemmas.{parts-at}
use Rattle.term_table.proofs.runs.begins_at.Goals as goal

pub returns-clause-point : goal.returns-clause-point
returns-clause-point g c is =
    parts-at (λ x. stands_ahead c.args.context (g.T.Seated.seat_of x)) c.args.seats.now c.args.place c.requires
    (let f = c.if-seats-place.false in omega (arith, f))
    (c.is_behind_ahead.ensures c.if-not-is_behind_ahead.false) (c.is_not_ahead.ensures is)
