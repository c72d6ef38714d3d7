use Rattle.std.proofs.Common.{rules}
use Rattle.std.proofs.lemmas.Fn.{always_returns_same}
use Rattle.inv_terms.specs.Looking.{stands_ahead}
use Rattle.inv_terms.proofs.OrderLemmas.{ahead_first}
use Rattle.inv_terms.proofs.looking.count_ahead.Goals as goal

pub returns : goal.returns
returns c = c.partition_point.ensures.partitioned (stands_ahead c.args.place) (always_returns_same _ _ _ (λ a r q k. search rules))
    (ahead_first c.args.run.now c.args.place c.requires)
