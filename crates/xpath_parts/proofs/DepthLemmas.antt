-- How deep works are nested.
use Rattle.std.proofs.Common.{◌≡◌, ℕ, suc, zero, ◌<◌, ◌≤◌, List, [], ◌∷◌, length, get_or, drop, sym, ap, ◌∙◌, subst, arith}
use Rattle.xpath_plan.specs.declared.plan_node.Separator.{Separator}
use Rattle.xpath_plan.specs.declared.plan_node.Operation.{Operation}
use Rattle.xpath_plan.specs.declared.plan_node.PlanNode.{PlanNode, PlanNode-F, fold-roll-PlanNode}
use Rattle.xpath_plan.specs.declared.plan_node.PlanNode.TheVariants as w
use Rattle.xpath_parts.specs.Depths.{depth, deepest, depth_step}
use Rattle.xpath_parts.specs.Finishing.{first_alone}

pub depth-node : (kind : Operation) (parts : List (Separator × PlanNode)) → depth (w.Node kind parts) ≡ suc (deepest parts)
depth-node kind parts = ap depth (sym (w.rolls-Node kind parts)) ∙ fold-roll-PlanNode ℕ depth_step (PlanNode-F.Node kind parts)

-- a work with parts is deeper than they are
pub deeper : (work : PlanNode) (kind : Operation) (parts : List (Separator × PlanNode)) → work ≡ w.Node kind parts → deepest parts < depth work
deeper work kind parts is = omega (arith, ap depth is, depth-node kind parts)

-- a part is no deeper than the deepest
pub no_deeper : (parts : List (Separator × PlanNode)) (k : ℕ) (part : Separator × PlanNode) → k < length parts → part ≡ get_or parts k part
    → depth part.1 ≤ deepest parts
no_deeper [] k part within is = absurd (omega (arith, within))
no_deeper (first ∷ parts) zero part within is = omega (arith, ap (λ (it : Separator × PlanNode). depth it.1) is)
no_deeper (first ∷ parts) (suc k) part within is = omega (arith, no_deeper parts k part (omega (arith, within)) is)

pub there-no_deeper : (parts : List (Separator × PlanNode)) (k : ℕ) (part : Separator × PlanNode) → k < length parts → part ≡ get_or parts k part
    → (depth part.1 ≤ deepest parts) × (depth (get_or parts k part).1 ≤ deepest parts)
there-no_deeper parts k part within is =
    (no_deeper parts k part within is, subst (λ (p : Separator × PlanNode). depth p.1 ≤ deepest parts) is (no_deeper parts k part within is))

pub first-no_deeper : (parts others : List (Separator × PlanNode)) (part : Separator × PlanNode) → parts ≡ part ∷ others → (depth part.1 ≤ deepest parts) ×
    (deepest others ≤ deepest parts)
first-no_deeper parts others part is = (omega (arith, ap deepest is), omega (arith, ap deepest is))

pub dropped-no_deeper : (n : ℕ) (parts : List (Separator × PlanNode)) → deepest (drop n parts) ≤ deepest parts
dropped-no_deeper zero parts = omega arith
dropped-no_deeper (suc n) [] = omega arith
dropped-no_deeper (suc n) (part ∷ parts) = omega (arith, dropped-no_deeper n parts)

pub first_alone-no_deeper : (parts : List (Separator × PlanNode)) → deepest (first_alone parts) ≤ deepest parts
first_alone-no_deeper [] = omega arith
first_alone-no_deeper (part ∷ parts) = omega arith
