-- Walks along the chain of a full name: `//n`, and `.//n` at the focus.
use Rattle.std.specs.Prelude.{◌≡◌, ℕ, zero, Bool, true, false, List, [], ◌∷◌, map, Option, Some, None, get_or}
use Rattle.xpath_tokens.specs.declared.token.Operator.TheVariants as o
use Rattle.xpath_grammar.specs.declared.step.Axis.{Axis}
use Rattle.xpath_grammar.specs.declared.step.Axis.TheVariants as a
use Rattle.xpath_meaning.specs.Values.{Value}
use Rattle.xpath_plan.specs.declared.plan_node.StepTest.{StepTest}
use Rattle.xpath_plan.specs.declared.plan_node.StepTest.TheVariants as t
use Rattle.xpath_plan.specs.declared.plan_node.Simple.{Simple}
use Rattle.xpath_plan.specs.declared.plan_node.Simple.TheVariants as s
use Rattle.xpath_plan.specs.declared.plan_node.Separator.{Separator}
use Rattle.xpath_plan.specs.declared.plan_node.Separator.TheVariants as l
use Rattle.xpath_plan.specs.declared.plan_node.Operation.{Operation}
use Rattle.xpath_plan.specs.declared.plan_node.Operation.TheVariants as m
use Rattle.xpath_plan.specs.declared.plan_node.PlanNode.{PlanNode, fold-PlanNode}
use Rattle.xpath_plan.specs.declared.plan_node.PlanNode.TheOpen.{PlanNode-F}
use Rattle.xpath_plan.specs.declared.plan_node.PlanNode.TheVariants as w
use Rattle.xpath_parts.specs.declared.named.Walk.{Walk}
use Rattle.xpath_parts.specs.Slots.{whole_slot}

-- a step to children of a full name, by its number; `.`; a walk, or one that is kept
pub data Form : Type 0 where
  other : Form
  item : Form
  child : ℕ → Form
  walk : Walk → Form
  kept : Walk → Form

-- Without parts

abbrev pub name_of : StepTest → Option ℕ
name_of (t.Named k) = Some k
name_of _ = None

abbrev pub name_on : Axis → StepTest → Option ℕ
name_on a.Child test = name_of test
name_on _ test = None

-- the number of the full name, where it is a step to children of one
abbrev pub child_name : Simple → Option ℕ
child_name (s.Step axis test) = name_on axis test
child_name _ = None

abbrev pub is_item : Simple → Bool
is_item s.Item = true
is_item _ = false

abbrev pub simple_form : Bool → Option ℕ → Form
simple_form true name = item
simple_form false None = other
simple_form false (Some k) = child k

-- With parts

abbrev pub is_double_slash : Separator → Bool
is_double_slash (l.Operator o.DoubleSlash) = true
is_double_slash _ = false

abbrev pub is_other : Separator → Bool
is_other l.Other = true
is_other _ = false

abbrev pub child_of : Form → Option ℕ
child_of (child k) = Some k
child_of _ = None

abbrev pub is_item_form : Form → Bool
is_item_form item = true
is_item_form _ = false

-- `//` and such a step
abbrev pub inner_name : Separator → Form → Option ℕ
inner_name link it = elim (is_double_slash link) [ true ↦ child_of it | false ↦ None ]

-- `.` as the first part
abbrev pub is_focus : Separator → Form → Bool
is_focus link it = elim (is_other link) [ true ↦ is_item_form it | false ↦ false ]

abbrev pub as_walk : Bool → Option ℕ → Option Walk
as_walk leading None = None
as_walk leading (Some k) = Some (record { name = k; is_leading = leading })

abbrev pub inside_walk : Bool → Option ℕ → Option Walk
inside_walk true name = as_walk false name
inside_walk false name = None

abbrev pub chain_walk : List (Separator × Form) → Option Walk
chain_walk (part ∷ []) = as_walk true (inner_name part.0 part.1)
chain_walk (first ∷ part ∷ []) = inside_walk (is_focus first.0 first.1) (inner_name part.0 part.1)
chain_walk _ = None

abbrev pub walk_form : Option Walk → Form
walk_form None = other
walk_form (Some it) = walk it

-- the walk of an expression that nothing is kept of
abbrev pub plain_of : Form → Option Walk
plain_of (walk it) = Some it
plain_of _ = None

abbrev pub kept_form : Option Walk → Form
kept_form None = other
kept_form (Some it) = kept it

abbrev pub node_form : Operation → List (Separator × Form) → Form
node_form m.Chain parts = walk_form (chain_walk parts)
node_form (m.Once slot zero) (part ∷ parts) = kept_form (plain_of part.1)
node_form _ parts = other

abbrev pub is_chain : Operation → Bool
is_chain m.Chain = true
is_chain _ = false

abbrev pub form_step : PlanNode-F Form → Form
form_step (PlanNode-F.Simple x) = simple_form (is_item x) (child_name x)
form_step (PlanNode-F.Node kind parts) = node_form kind parts

abbrev pub form : PlanNode → Form
form = fold-PlanNode Form form_step

-- the number of the full name, where the work is a step to children of one
abbrev pub step_name : PlanNode → Option ℕ
step_name work = child_of (form work)

abbrev pub forms : List (Separator × PlanNode) → List (Separator × Form)
forms parts = map (λ part. (part.0, form part.1)) parts

abbrev pub any_of : Form → Option Walk
any_of (walk it) = Some it
any_of (kept it) = Some it
any_of _ = None

-- the walk that a work is, whose value isn't kept
abbrev pub plain_walk : PlanNode → Option Walk
plain_walk work = plain_of (form work)

-- the walk that a work is, or the part of it whose value it keeps
abbrev pub walk_of : PlanNode → Option Walk
walk_of work = any_of (form work)

-- Nothing is held of the whole.
abbrev pub IsEmptyAt : PlanNode → List (Option Value) → Type 0
IsEmptyAt work slots = (slot : ℕ) → whole_slot work ≡ Some slot → get_or slots slot None ≡ None

-- the parts of a walk
abbrev pub inner_part : ℕ → Separator × PlanNode
inner_part k = (l.Operator o.DoubleSlash, w.Simple (s.Step a.Child (t.Named k)))

abbrev pub focus_part : Separator × PlanNode
focus_part = (l.Other, w.Simple s.Item)

abbrev pub parts_by : Bool → ℕ → List (Separator × PlanNode)
parts_by true k = inner_part k ∷ []
parts_by false k = focus_part ∷ inner_part k ∷ []

abbrev pub walk_parts : Walk → List (Separator × PlanNode)
walk_parts it = parts_by it.is_leading it.name

-- the node that it is taken from, at a focus on this one
abbrev pub begin_by : Bool → ℕ → ℕ
begin_by true n = 0
begin_by false n = n
