-- Slots, in which the values of parts are kept that have one value at all nodes of a document.
use Rattle.std.specs.Prelude.{◌≡◌, ℕ, zero, true, List, ◌++◌, ◌∷◌, length, Option, Some, None, get_or, slice_get, slice_set}
use Rattle.inv_base.specs.Tree.{Node}
use Rattle.node_arena.specs.Document.{Document}
use Rattle.node_arena.specs.Moves.{tree_nodes}
use Rattle.xpath_items.specs.declared.item.Item.{Item}
use Rattle.xpath_items.specs.declared.outcome.Focus.{Focus}
use Rattle.xpath_meaning.specs.Steps.{is_node}
use Rattle.xpath_meaning.specs.Values.{Value}
use Rattle.xpath_meaning.specs.Meaning.{Context, mean}
use Rattle.xpath_meaning.specs.Uses.{IsAtNode}
use Rattle.xpath_plan.specs.declared.plan_node.Operation.{Operation}
use Rattle.xpath_plan.specs.declared.plan_node.Operation.TheVariants as m
use Rattle.xpath_plan.specs.declared.plan_node.Separator.{Separator}
use Rattle.xpath_plan.specs.declared.plan_node.PlanNode.{PlanNode, fold-PlanNode}
use Rattle.xpath_plan.specs.declared.plan_node.PlanNode.TheOpen.{PlanNode-F}
use Rattle.xpath_plan.specs.Claims.{Kept, IsPlaced, kept_of, kept_in, own_kept}
use Rattle.xpath_plan.specs.Plans.{seen}
use Rattle.xpath_steps.specs.Variables.{ValueWithin}
use Rattle.xpath_parts.specs.declared.dynamic.DynamicContext.{DynamicContext}
use Rattle.xpath_parts.specs.Contexts.{operands_of}
use Rattle.xpath_parts.specs.Placed.{kept_parts, ArePlaced}

-- the parts that the plan keeps, by their slots
abbrev pub table : DynamicContext → List Kept
table base = kept_of base.plan.now

-- The parts of a work that are kept are those of the plan, each at its slot.
unfoldable pub PlacedWork : DynamicContext → PlanNode → Type 0
PlacedWork base work = ArePlaced (table base) (kept_in base.names.now work)

unfoldable pub PlacedParts : DynamicContext → List (Separator × PlanNode) → Type 0
PlacedParts base parts = ArePlaced (table base) (kept_parts base.names.now parts)

unfoldable pub PlacedNode : DynamicContext → Operation → List (Separator × PlanNode) → Type 0
PlacedNode base kind parts = ArePlaced (table base) (kept_parts base.names.now parts ++ own_kept kind (operands_of base.names.now parts))

-- The part has the value at all nodes, and its nodes are among so many.
pub record IsHeld (nodes : List Node) (count : ℕ) (part : Kept) (v : Value) : Type 0 where
  pub value : (c : Context) → IsAtNode part.height c → v ≡ mean nodes part.exp c
  pub within : ValueWithin count v

-- Each slot is empty or holds the value of its part in the document.
unfoldable pub HoldIn : Document → List Kept → List (Option Value) → Type 0
HoldIn document parts slots = (k : ℕ) (part : Kept) (v : Value) → slice_get parts k ≡ Some part → get_or slots k None ≡ Some v
    → IsHeld (tree_nodes document) (length document.nodes) part v

abbrev pub AreHeld : DynamicContext → List (Option Value) → Type 0
AreHeld base slots = HoldIn base.doc.now (table base) slots

-- The part is the slot's, which is used at the focus and inside these variables.
pub record IsKeptHere (base : DynamicContext) (focus : Focus) (bound : List Item) (slot : ℕ) (part : PlanNode) : Type 0 where
  pub placed : PlacedWork base part
  pub kept : IsPlaced (table base) (record { slot = slot; height = length bound; exp = seen base.names.now part })
  pub node : is_node focus.item ≡ true

-- What is held stays.
unfoldable pub Grows : List (Option Value) → List (Option Value) → Type 0
Grows old new = (length new ≡ length old) × ((k : ℕ) (v : Value) → get_or old k None ≡ Some v → get_or new k None ≡ Some v)

-- the slot of a work that is one part that is kept, with no variable around it
abbrev pub whole_step : PlanNode-F (Option ℕ) → Option ℕ
whole_step (PlanNode-F.Node (m.Once slot zero) (part ∷ parts)) = Some slot
whole_step _ = None

abbrev pub whole_slot : PlanNode → Option ℕ
whole_slot = fold-PlanNode (Option ℕ) whole_step

abbrev pub filled : List (Option Value) → ℕ → Value → List (Option Value)
filled slots k v = slice_set slots k (Some v)
