use Rattle.std.proofs.Common.{rules}
use Rattle.std.proofs.lemmas.Fn.{always_returns_same}
use Rattle.bind_seats.specs.Marks.{comes_before}
use Rattle.bind_seats.proofs.MarkLemmas.{before_is_parted, counted}
use Rattle.bind_seats.proofs.marks.count_before.Goals as goal

pub returns : goal.returns
returns c =
    counted (λ m. comes_before m c.args.mark) c.args.marks.now _ c.partition_point.ensures.bound
    (c.partition_point.ensures.partitioned (λ m. comes_before m c.args.mark) (always_returns_same _ _ _ (λ a r q k. search rules))
    (before_is_parted c.args.marks.now c.args.mark c.requires))
