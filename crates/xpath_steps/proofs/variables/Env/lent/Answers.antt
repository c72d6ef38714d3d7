use Rattle.std.proofs.Common.{◌∙◌, ap, sym, subst, chars}
use Rattle.xpath_steps.specs.Variables.{variables_of, ValueWithin, ValuesWithin}
use Rattle.xpath_steps.proofs.VariableLemmas.{outer_within}
use Rattle.xpath_steps.proofs.variables.Env.lent.Goals as goal

pub returns-clause-within : goal.returns-clause-within
returns-clause-within c = λ count h.
    subst (ValueWithin count) (sym c.last_lent.ensures)
    (outer_within count (chars c.args.name.now) (variables_of c.deref.result.now)
    (subst (ValuesWithin count) (sym c.self.view_is ∙ ap variables_of (sym c.deref.ensures.value)) h))
