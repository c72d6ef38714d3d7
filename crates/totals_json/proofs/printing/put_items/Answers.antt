use Rattle.std.proofs.Common.{arith}
use Rattle.json_text.proofs.MakingLemmas.{Leads-next, Leads-all}
use Rattle.totals_json.specs.TotalsJson.{difference_object}
use Rattle.totals_json.proofs.printing.put_items.Goals as goal

pub differences-preserved : goal.differences-preserved
differences-preserved g c =
    Leads-next difference_object c.args.differences.now c.differences.difference-index c.difference-item.result _ _ _ _ _ _ _
    c.differences-test.true c.difference-item.is c.differences.invariant c.put_difference.ensures

pub returns : goal.returns
returns g c =
    Leads-all difference_object c.args.differences.now c.differences.difference-index _ _ _ _ _ (omega (arith, c.differences-test.false)) c.differences.invariant
