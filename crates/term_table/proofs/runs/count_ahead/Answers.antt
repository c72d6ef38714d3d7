use Rattle.std.proofs.Common.{rules}
use Rattle.std.proofs.lemmas.Fn.{always_returns_same}
use Rattle.term_table.specs.Starts.{stands_ahead}
use Rattle.term_table.proofs.runs.count_ahead.Goals as goal

pub returns-clause-point : goal.returns-clause-point
returns-clause-point g c =
    c.partition_point.ensures.partitioned (λ x. stands_ahead c.args.context (g.T.Seated.seat_of x))
    (always_returns_same _ _ _ (λ a r q k. search rules)) c.requires
