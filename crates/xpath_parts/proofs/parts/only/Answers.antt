use Rattle.std.proofs.Common.{arith, subst}
use Rattle.xpath_plan.specs.declared.plan_node.Separator.{Separator}
use Rattle.xpath_plan.specs.declared.plan_node.PlanNode.{PlanNode}
use Rattle.xpath_parts.specs.Slots.{PlacedWork}
use Rattle.xpath_parts.proofs.SlotLemmas.{placed_at}
use Rattle.xpath_parts.proofs.parts.only.Goals as goal

pub returns-in-len1-clause-placed : goal.returns-in-len1-clause-placed
returns-in-len1-clause-placed c = λ base placed. subst (λ (p : Separator × PlanNode). PlacedWork base p.1) c.index-parts-0.is
    (placed_at base c.args.parts.now 0 c.index-parts-0.result (omega (arith, c.in-len1.len_at_least)) c.index-parts-0.is placed)
