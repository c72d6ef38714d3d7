use Rattle.std.proofs.Common.{subst}
use Rattle.xpath_items.specs.Faults.{Gives}
use Rattle.xpath_steps.specs.Lending.{lent_value}
use Rattle.xpath_steps.proofs.WithinLemmas.{gives_within}
use Rattle.xpath_steps.proofs.variables.Env.value_of.Goals as goal

pub returns-clause-value : goal.returns-clause-value
returns-clause-value c = subst (Gives c.copy_of.result) c.lent.ensures.value c.copy_of.ensures

pub returns-clause-within : goal.returns-clause-within
returns-clause-within c = λ count h. gives_within count c.copy_of.result (lent_value c.lent.result) c.copy_of.ensures (c.lent.ensures.within count h)
