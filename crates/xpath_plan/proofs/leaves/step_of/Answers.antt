use Rattle.std.proofs.Common.{◌++◌, [], sym, ap, ◌∙◌}
use Rattle.xpath_meaning.specs.Resolving as meaning
use Rattle.xpath_plan.specs.Plans as spec
use Rattle.xpath_plan.proofs.leaves.step_of.Goals as goal

pub returns-in-Some-clause-step : goal.returns-in-Some-clause-step
returns-in-Some-clause-step c = λ later.
    let found = ap (spec.test_in (c.test_of.new.names ++ later)) (sym c.in-Some.is) ∙ c.in_ok-found.ensures.test later in
    λ j. meaning.step_of (c.axis_of-axis.ensures j) (found j)

pub returns-in-None-clause-step : goal.returns-in-None-clause-step
returns-in-None-clause-step c = λ later. ap (meaning.step_of (meaning.axis_of c.args.form c.args.test.now))
    (ap (spec.test_in (c.test_of.new.names ++ [])) (sym c.in-None.is) ∙ c.in_ok-found.ensures.test [])
