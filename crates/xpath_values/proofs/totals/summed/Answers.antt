use Rattle.xpath_values.proofs.TotalLemmas.{summed_more, summed_erred}
use Rattle.xpath_values.proofs.totals.summed.Goals as goal

pub items-preserved : goal.items-preserved
items-preserved c = summed_more c.args.items.now c.items.item-index c.item-item.result _ _ _ _ _ c.items-test.true c.item-item.is c.items.invariant
    c.number_in.ensures c.add.ensures c.in-Ok.ensures

pub returns-in-Err : goal.returns-in-Err
returns-in-Err c = summed_erred c.args.items.now c.items.item-index c.item-item.result _ _ _ _ _ c.items-test.true c.item-item.is c.items.invariant
    c.number_in.ensures c.add.ensures c.in-Err.ensures
