use Rattle.std.proofs.Common.{Some, None, chars, ap, ◌∙◌}
use Rattle.xpath_meaning.specs.Expressions as e
use Rattle.xpath_plan.proofs.VariableLaws.{variable-found}
use Rattle.xpath_plan.proofs.leaves.variable_of.Goals as goal

pub returns-in-Some : goal.returns-in-Some
returns-in-Some c = λ later. variable-found (chars c.as_str.result.now) _ c.args.bound.now (Some c.in-Some.height)
    (ap chars c.as_str.ensures.value ∙ c.in_ok-name.ensures) c.in-Some.ensures.exact

pub returns : goal.returns
returns c = λ later. ap e.outer (c.in_ok-of-in-None.ensures ∙ (ap chars c.as_str-in-None.ensures.value ∙ c.in_ok-name.ensures))
    ∙ variable-found (chars c.as_str.result.now) _ c.args.bound.now None (ap chars c.as_str.ensures.value ∙ c.in_ok-name.ensures) c.in-None.ensures.exact
