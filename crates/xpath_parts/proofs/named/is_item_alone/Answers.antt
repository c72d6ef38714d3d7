use Rattle.std.proofs.Common.{◌∙◌, ap, sym}
use Rattle.xpath_plan.specs.declared.plan_node.PlanNode.TheVariants as w
use Rattle.xpath_parts.proofs.NamedLemmas.{item-of_simple, item-of_node}
use Rattle.xpath_parts.proofs.named.is_item_alone.Goals as goal

pub returns-in-Simple-clause-form : goal.returns-in-Simple-clause-form
returns-in-Simple-clause-form c = c.is_item.ensures.form ∙ sym (item-of_simple c.args.work.now c.in-Simple.simple c.in-Simple.is)

pub returns-in-Simple-clause-item : goal.returns-in-Simple-clause-item
returns-in-Simple-clause-item c = λ h. c.in-Simple.is ∙ ap w.Simple (c.is_item.ensures.item h)

pub returns-in-Node-clause-form : goal.returns-in-Node-clause-form
returns-in-Node-clause-form c = sym (item-of_node c.args.work.now _ _ c.in-Node.is)
