use Rattle.xpath_meaning.specs.Collections.{untyped_read}
use Rattle.xpath_values.proofs.TotalLemmas.{taken_start, taken_more, taken_erred}
use Rattle.xpath_values.proofs.totals.all_read.Goals as goal

pub items-init : goal.items-init
items-init c = taken_start untyped_read c.args.items.now _ c.new-read.ensures

pub items-preserved : goal.items-preserved
items-preserved c = taken_more untyped_read c.args.items.now c.items.item-index c.item-item.result _ _ _ c.items-test.true c.item-item.is c.items.invariant
    c.in-Ok.ensures c.in_ok-push-in-Ok.ensures.ok

pub returns-in-Err : goal.returns-in-Err
returns-in-Err c = taken_erred untyped_read c.args.items.now c.items.item-index c.item-item.result _ c.in-Err.fault c.items-test.true c.item-item.is
    c.items.invariant c.in-Err.ensures
