use Rattle.std.proofs.Common.{get_or}
use Rattle.xpath_operators.proofs.RowLemmas.{up_to}
use Rattle.xpath_operators.proofs.searching.deciding.Goals as goal

pub items-preserved : goal.items-preserved
items-preserved c = record {
  within = c.better-best.ensures.within;
  best = λ n d l. up_to c.args.op c.args.items.now c.items.k n (get_or c.args.items.now c.better-best.result d) d l (c.better-best.ensures.takes d)
      (λ below. c.better-best.ensures.keeps (get_or c.args.items.now n d) d (c.items.invariant.best n d below));
}
