use Rattle.std.proofs.Common.{ap, sym, ◌∙◌, Ok}
use Rattle.xpath_meaning.specs.Comparing.{compare}
use Rattle.xpath_operators.proofs.AnyLemmas.{any_passed, any_found, any_erred}
use Rattle.xpath_operators.proofs.searching.some_beside.Goals as goal

pub xs-preserved : goal.xs-preserved
xs-preserved c =
    any_passed (λ x. compare c.args.op x c.args.y.now) c.args.xs.now c.xs.x-index c.x-item.result c.xs-test.true c.x-item.is c.xs.invariant
    (ap Ok (sym c.if-holds.false) ∙ c.in-Ok.ensures)

pub returns-then-holds : goal.returns-then-holds
returns-then-holds c =
    any_found (λ x. compare c.args.op x c.args.y.now) c.args.xs.now c.xs.x-index c.x-item.result c.xs-test.true c.x-item.is c.xs.invariant
    (ap Ok (sym c.if-holds.true) ∙ c.in-Ok.ensures)

pub returns-in-Err : goal.returns-in-Err
returns-in-Err c =
    any_erred (λ x. compare c.args.op x c.args.y.now) c.args.xs.now c.xs.x-index c.x-item.result c.in-Err.error c.xs-test.true c.x-item.is c.xs.invariant
    c.in-Err.ensures
