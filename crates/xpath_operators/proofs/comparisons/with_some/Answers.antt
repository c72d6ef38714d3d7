use Rattle.std.proofs.Common.{ap, sym, ◌∙◌, Ok}
use Rattle.xpath_meaning.specs.Comparing.{compare}
use Rattle.xpath_operators.proofs.AnyLemmas.{any_passed, any_found, any_erred}
use Rattle.xpath_operators.proofs.comparisons.with_some.Goals as goal

pub ys-preserved : goal.ys-preserved
ys-preserved c =
    any_passed (λ y. compare c.args.op c.args.x.now y) c.args.ys.now c.ys.y-index c.y-item.result c.ys-test.true c.y-item.is c.ys.invariant
    (ap Ok (sym c.if-holds.false) ∙ c.in-Ok.ensures)

pub returns-then-holds : goal.returns-then-holds
returns-then-holds c =
    any_found (λ y. compare c.args.op c.args.x.now y) c.args.ys.now c.ys.y-index c.y-item.result c.ys-test.true c.y-item.is c.ys.invariant
    (ap Ok (sym c.if-holds.true) ∙ c.in-Ok.ensures)

pub returns-in-Err : goal.returns-in-Err
returns-in-Err c =
    any_erred (λ y. compare c.args.op c.args.x.now y) c.args.ys.now c.ys.y-index c.y-item.result c.in-Err.error c.ys-test.true c.y-item.is c.ys.invariant
    c.in-Err.ensures
