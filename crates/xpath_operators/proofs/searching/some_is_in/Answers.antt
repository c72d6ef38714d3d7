use Rattle.std.proofs.Common.{ap, sym, ◌∙◌, Ok}
use Rattle.xpath_meaning.specs.Values.{then_}
use Rattle.xpath_operators.specs.Rows.{row, is_in}
use Rattle.xpath_operators.proofs.AnyLemmas.{any_passed, any_found, any_erred}
use Rattle.xpath_operators.proofs.searching.some_is_in.Goals as goal

pub xs-preserved : goal.xs-preserved
xs-preserved c =
    any_passed (λ x. then_ (row c.args.other.now x) (λ a. Ok (is_in c.args.ranked.now a))) c.args.xs.now c.xs.x-index c.x-item.result c.xs-test.true c.x-item.is
    c.xs.invariant (ap Ok (sym c.if-found.false) ∙ c.in-Ok.ensures)

pub returns-then-found : goal.returns-then-found
returns-then-found c =
    any_found (λ x. then_ (row c.args.other.now x) (λ a. Ok (is_in c.args.ranked.now a))) c.args.xs.now c.xs.x-index c.x-item.result c.xs-test.true c.x-item.is
    c.xs.invariant (ap Ok (sym c.if-found.true) ∙ c.in-Ok.ensures)

pub returns-in-Err : goal.returns-in-Err
returns-in-Err c =
    any_erred (λ x. then_ (row c.args.other.now x) (λ a. Ok (is_in c.args.ranked.now a))) c.args.xs.now c.xs.x-index c.x-item.result c.in-Err.error
    c.xs-test.true c.x-item.is c.xs.invariant c.in-Err.ensures
