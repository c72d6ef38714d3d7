use Rattle.std.proofs.Common.{ap, ◌∙◌, Ok, Err}
use Rattle.xpath_operators.proofs.OrderLemmas.{compare_is}
use Rattle.xpath_operators.proofs.comparing.compare.Goals as goal

pub returns-in-Ok : goal.returns-in-Ok
returns-in-Ok c = ap Ok c.holds.ensures ∙ compare_is c.args.op c.args.a.now c.args.b.now (Ok c.in-Ok.order) c.in-Ok.ensures

pub returns-in-Err : goal.returns-in-Err
returns-in-Err c = compare_is c.args.op c.args.a.now c.args.b.now (Err c.in-Err.error) c.in-Err.ensures
