use Rattle.xpath_operators.proofs.RowLemmas.{sorted_same}
use Rattle.xpath_operators.proofs.ranking.in_rank_order.Goals as goal

pub returns-clause-same : goal.returns-clause-same
returns-clause-same c = λ a. sorted_same c.in_ok-ranked.ranked.items c.sort_unstable.new.self.items c.args.items.now a c.sort_unstable.ensures.permutation
    c.in_ok-ranked.ensures
