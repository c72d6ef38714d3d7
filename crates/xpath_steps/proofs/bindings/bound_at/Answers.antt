use Rattle.std.proofs.Common.{Ok, ap, subst}
use Rattle.xpath_items.specs.Faults.{Gives}
use Rattle.xpath_steps.proofs.WithinLemmas.{gives_within}
use Rattle.xpath_steps.proofs.bindings.bound_at.Goals as goal

pub returns-clause-value : goal.returns-clause-value
returns-clause-value c = subst (Gives c.copy_of.result) (ap Ok c.lent_at.ensures.value) c.copy_of.ensures

pub returns-clause-within : goal.returns-clause-within
returns-clause-within c = λ count h. gives_within count c.copy_of.result (Ok c.lent_at.result.now) c.copy_of.ensures (c.lent_at.ensures.within count h)
