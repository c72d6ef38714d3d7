use Rattle.xpath_parts.specs.Contexts.{count}
use Rattle.xpath_parts.proofs.at_hand.of_variable.Goals as goal

pub returns-in-Variable-clause-within : goal.returns-in-Variable-clause-within
returns-in-Variable-clause-within c = c.lent_at.ensures.within (count c.args.dynamic.now) c.requires.inside

pub returns-in-Outer-clause-within : goal.returns-in-Outer-clause-within
returns-in-Outer-clause-within c = c.lent.ensures.within (count c.args.dynamic.now) c.requires.variables
