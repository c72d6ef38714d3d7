use Rattle.std.proofs.Common.{sym}
use Rattle.xpath_steps.proofs.VariableLemmas.{bound_none, bound_range, range_within}
use Rattle.xpath_steps.proofs.bindings.lent_at.Goals as goal

pub returns-then-height-items-clause-value : goal.returns-then-height-items-clause-value
returns-then-height-items-clause-value c = bound_range c.args.height c.args.items.now c.if-height-items.true

pub returns-then-height-items-clause-within : goal.returns-then-height-items-clause-within
returns-then-height-items-clause-within c = range_within c.args.height c.args.items.now c.if-height-items.true

pub returns-else-height-items-clause-value : goal.returns-else-height-items-clause-value
returns-else-height-items-clause-value c = sym (bound_none c.args.height c.args.items.now c.if-height-items.false)
