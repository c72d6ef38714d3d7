use Rattle.xpath_parts.specs.Contexts.{count}
use Rattle.xpath_parts.proofs.simple.simple.Goals as goal

pub returns-in-Variable-clause-within : goal.returns-in-Variable-clause-within
returns-in-Variable-clause-within g c = c.bound_at.ensures.within (count c.args.dynamic.now) c.requires.inside

pub returns-in-Outer-clause-within : goal.returns-in-Outer-clause-within
returns-in-Outer-clause-within g c = c.value_of.ensures.within (count c.args.dynamic.now) c.requires.variables
