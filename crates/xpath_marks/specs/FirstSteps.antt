-- First steps of patterns to children of a name.
use Rattle.std.specs.Prelude.{◌≡◌, ℕ, Bool, true, false, List, [], ◌∷◌, filter, Option, None, Some}
use Rattle.std.specs.List.{list_any}
use Rattle.inv_base.specs.Tree.{Node, is_among}
use Rattle.node_arena.specs.Moves.{parent}
use Rattle.xpath_grammar.specs.declared.step.Axis.TheVariants as a
use Rattle.xpath_meaning.specs.Expressions.{Exp}
use Rattle.xpath_meaning.specs.Resolving.{step_of}
use Rattle.xpath_meaning.specs.Patterns.{found_at}
use Rattle.xpath_plan.specs.declared.plan_node.Operation.{Operation}
use Rattle.xpath_plan.specs.declared.plan_node.Operation.TheVariants as k
use Rattle.xpath_plan.specs.declared.plan_node.Separator.{Separator}
use Rattle.xpath_plan.specs.declared.plan_node.StepTest.TheVariants as t
use Rattle.xpath_plan.specs.declared.plan_node.PlanNode.{PlanNode}
use Rattle.xpath_plan.specs.Plans.{test_seen}
use Rattle.xpath_parts.specs.declared.dynamic.DynamicContext.{DynamicContext}
use Rattle.xpath_parts.specs.Named.{step_name}
use Rattle.xpath_walks.specs.Walks.{axis_numbers, node_numbers}
use Rattle.xpath_marks.specs.Marking.{nodes_of, is_first_part, is_filter}

-- the number of the name that the first part goes to as a step to children, where the others are its predicates
abbrev pub filtered_name : Operation → PlanNode → Option ℕ
filtered_name kind first = elim (is_filter kind) [ true ↦ step_name first | false ↦ None ]

-- the document's elements of the name with the number
abbrev pub elements_of : DynamicContext → ℕ → List ℕ
elements_of base n = axis_numbers (nodes_of base) a.Descendant 0 (test_seen base.names.now (t.Named n))

-- the node that another is right inside
abbrev pub around_at : List Node → ℕ → List ℕ
around_at nodes n = elim (parent nodes n) [ None ↦ [] | Some around ↦ around ∷ [] ]

-- the nodes that some are right inside, in document order
abbrev pub all_around : List Node → List ℕ → List ℕ
all_around nodes from = node_numbers (filter (λ (node : Node). list_any (λ n. is_among node.number (around_at nodes n)) from) nodes)

-- What is found from a node are children of it that have the name with the number.
abbrev pub GoesToChildren : DynamicContext → ℕ → Exp → Type 0
GoesToChildren base name e = (n m : ℕ) → is_among m (found_at (nodes_of base) base.env.now e n) ≡ true
    → is_among m (found_at (nodes_of base) base.env.now (step_of a.Child (test_seen base.names.now (t.Named name))) n) ≡ true

-- What is made of the parts is found by the first part alone, where it is said whether it is the only one.
abbrev pub is_found_by_first : Operation → Separator → Bool → Bool
is_found_by_first k.FilteredStep link alone = alone
is_found_by_first k.FreeStep link alone = alone
is_found_by_first kind link alone = is_first_part kind link alone
