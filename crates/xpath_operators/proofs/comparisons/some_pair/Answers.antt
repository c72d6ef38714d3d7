use Rattle.std.proofs.Common.{ap, sym, ◌∙◌, Ok}
use Rattle.xpath_meaning.specs.Comparing.{compare, any_of}
use Rattle.xpath_operators.proofs.AnyLemmas.{any_passed, any_found, any_erred}
use Rattle.xpath_operators.proofs.comparisons.some_pair.Goals as goal

pub xs-preserved : goal.xs-preserved
xs-preserved c =
    any_passed (λ x. any_of (λ y. compare c.args.op x y) c.args.ys.now) c.args.xs.now c.xs.x-index c.x-item.result c.xs-test.true c.x-item.is c.xs.invariant
    (ap Ok (sym c.if-found.false) ∙ c.in-Ok.ensures)

pub returns-then-found : goal.returns-then-found
returns-then-found c =
    any_found (λ x. any_of (λ y. compare c.args.op x y) c.args.ys.now) c.args.xs.now c.xs.x-index c.x-item.result c.xs-test.true c.x-item.is c.xs.invariant
    (ap Ok (sym c.if-found.true) ∙ c.in-Ok.ensures)

pub returns-in-Err : goal.returns-in-Err
returns-in-Err c =
    any_erred (λ x. any_of (λ y. compare c.args.op x y) c.args.ys.now) c.args.xs.now c.xs.x-index c.x-item.result c.in-Err.error c.xs-test.true c.x-item.is
    c.xs.invariant c.in-Err.ensures
