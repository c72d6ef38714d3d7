use Rattle.std.proofs.Common.{◌∙◌, sym}
use Rattle.xpath_parts.proofs.NamedLemmas.{work_some, child-of_simple, child-of_node}
use Rattle.xpath_parts.proofs.named.step_name.Goals as goal

pub returns-in-Simple-clause-name : goal.returns-in-Simple-clause-name
returns-in-Simple-clause-name c = c.child_name.ensures.name ∙ sym (child-of_simple c.args.work.now c.in-Simple.simple c.in-Simple.is)

pub returns-in-Simple-clause-step : goal.returns-in-Simple-clause-step
returns-in-Simple-clause-step c = work_some c.args.work.now c.in-Simple.simple c.child_name.result c.in-Simple.is c.child_name.ensures.step

pub returns-in-Node-clause-name : goal.returns-in-Node-clause-name
returns-in-Node-clause-name c = sym (child-of_node c.args.work.now _ _ c.in-Node.is)
