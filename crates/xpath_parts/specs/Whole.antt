-- Works that are one part that is kept.
use Rattle.std.specs.Prelude.{◌≡◌, ℕ, zero, List, ◌∷◌}
use Rattle.xpath_plan.specs.declared.plan_node.Operation.TheVariants as m
use Rattle.xpath_plan.specs.declared.plan_node.Separator.{Separator}
use Rattle.xpath_plan.specs.declared.plan_node.PlanNode.{PlanNode}
use Rattle.xpath_plan.specs.declared.plan_node.PlanNode.TheVariants as w

-- The work is the part, kept in the slot, with no variable around it.
pub record IsWhole (work : PlanNode) (slot : ℕ) (part : PlanNode) : Type 0 where
  pub link : Separator
  pub others : List (Separator × PlanNode)
  pub is : work ≡ w.Node (m.Once slot zero) ((link, part) ∷ others)
