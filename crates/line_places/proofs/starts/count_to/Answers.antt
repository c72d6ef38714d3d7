use Rattle.std.proofs.Common.{rules}
use Rattle.std.proofs.lemmas.Fn.{always_returns_same}
use Rattle.std.proofs.lemmas.List.Sorted.{IsPartitionedBy-leb}
use lib.Dec.{leb}
use Rattle.line_places.proofs.StartLemmas.{counted_by_halving}
use Rattle.line_places.proofs.starts.count_to.Goals as goal

pub returns : goal.returns
returns c =
    counted_by_halving c.args.place c.args.starts.now _ c.partition_point.ensures.bound
    (c.partition_point.ensures.partitioned (λ start. leb start c.args.place) (always_returns_same _ _ _ (λ a r q k. search rules))
    (IsPartitionedBy-leb (λ start. start) c.args.starts.now c.args.place c.requires))
