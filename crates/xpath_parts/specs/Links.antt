-- What stands before an operand and the value before that come to with it.
use Rattle.std.specs.Prelude.{◌≡◌, ℕ, Bool, true, false, List, [], ◌∷◌, map, Option, Ok}
use Rattle.inv_base.specs.Tree.{Node, Name}
use Rattle.xpath_grammar.specs.declared.operators.Binder.{Binder}
use Rattle.xpath_tokens.specs.declared.token.Operator.{Operator}
use Rattle.xpath_tokens.specs.declared.token.Operator.TheVariants as o
use Rattle.xpath_items.specs.declared.item.Item.{Item}
use Rattle.xpath_meaning.specs.Values.{Value, value, then_, joined}
use Rattle.xpath_meaning.specs.Items.{truth}
use Rattle.xpath_meaning.specs.Comparing.{boolean}
use Rattle.xpath_meaning.specs.Steps.{path, filtered_by}
use Rattle.xpath_meaning.specs.Expressions as e
use Rattle.xpath_meaning.specs.Expressions.{Exp, NodeTest}
use Rattle.xpath_meaning.specs.Resolving.{Operand, all_inside, bound_all, in_axis_order, kept_of}
use Rattle.xpath_meaning.specs.Meaning.{Context, at, inside, mean, truth_of, operated, bound_by}
use Rattle.xpath_plan.specs.declared.plan_node.Separator.{Separator}
use Rattle.xpath_plan.specs.declared.plan_node.Separator.TheVariants as l
use Rattle.xpath_plan.specs.declared.plan_node.PlanNode.{PlanNode}
use Rattle.xpath_plan.specs.Plans.{seen}
use Rattle.xpath_operators.specs.Nodes.{AreWithin}
use Rattle.xpath_steps.specs.Steps.{inside_seen}
use Rattle.xpath_steps.specs.Variables.{ValueWithin}
use Rattle.xpath_parts.specs.declared.linking.Ahead.{Ahead}
use Rattle.xpath_parts.specs.declared.linking.Ahead.TheVariants as a

-- a turn of a step or a predicate
abbrev pub turn : List Node → Exp → Context → Item → ℕ → ℕ → Value
turn nodes e c item position last = mean nodes e (at c item position last)

-- two values of which the first is known
abbrev pub with_values : List Node → Operator → List Item → List Item → Value
with_values nodes o.And xs ys = boolean (truth ys)
with_values nodes o.Or xs ys = boolean (truth ys)
with_values nodes operator xs ys = operated nodes operator xs ys

-- an operator with the value before it, and the operand behind it
abbrev pub behind : List Node → Operator → List Item → Exp → Context → Value
behind nodes o.Slash xs y c = path nodes (turn nodes y c) xs
behind nodes o.DoubleSlash xs y c = then_ (path nodes (turn nodes all_inside c) xs) (path nodes (turn nodes y c))
behind nodes o.And xs y c = then_ (truth xs) (λ holds. elim holds [ true ↦ boolean (truth_of (mean nodes y c)) | false ↦ boolean (Ok false) ])
behind nodes o.Or xs y c = then_ (truth xs) (λ holds. elim holds [ true ↦ boolean (Ok true) | false ↦ boolean (truth_of (mean nodes y c)) ])
behind nodes operator xs y c = then_ (mean nodes y c) (λ ys. operated nodes operator xs ys)

-- the value of what is so linked, by the value before the link
abbrev pub linked_value : List Node → Separator → Value → Exp → Context → Value
linked_value nodes (l.Operator operator) before y c = then_ before (λ xs. behind nodes operator xs y c)
linked_value nodes l.Comma before y c = joined before (mean nodes y c)
linked_value nodes l.Other before y c = Ok []

-- the value of a chain, by the value before it
abbrev pub chain_value : List Node → List (Separator × Exp) → Value → Context → Value
chain_value nodes [] before c = before
chain_value nodes (part ∷ parts) before c = chain_value nodes parts (linked_value nodes part.0 before part.1 c) c

-- what predicates keep, one after the other, each taken by its turns
abbrev pub kept_by_all : (Exp → Item → ℕ → ℕ → Value) → List Operand → List Item → Value
kept_by_all turns [] items = Ok items
kept_by_all turns (part ∷ parts) items = then_ (filtered_by (turns part.1) items) (λ kept. kept_by_all turns parts kept)

-- what `//` and a step without predicates on the child axis make of the value before them
abbrev pub inside_value : List Node → Option NodeTest → Value → Value
inside_value nodes test before = then_ before (inside_seen nodes test)

-- The link and its operand are `//` and such a step.
abbrev pub IsInside : Separator → Exp → Option NodeTest → Type 0
IsInside link y test = (nodes : List Node) (before : Value) (c : Context) → linked_value nodes link before y c ≡ inside_value nodes test before

-- what is made of the value before a link and of its operand's
abbrev pub joined_by : List Node → Separator → List Item → List Item → Value
joined_by nodes (l.Operator operator) xs ys = with_values nodes operator xs ys
joined_by nodes l.Comma xs ys = joined (Ok xs) (Ok ys)
joined_by nodes l.Other xs ys = Ok []

-- The operator of the link takes the items of both operands as they are.
abbrev pub IsOnItems : Separator → Operator → Type 0
IsOnItems link operator = (nodes : List Node) (xs ys : List Item) → joined_by nodes link xs ys ≡ operated nodes operator xs ys

-- Of the value before a link this is known before its operand is evaluated: the value of both, or that the operand's
-- value is wanted, or that the operand is taken at each item.
abbrev pub IsAhead : List Node → Separator → Value → Ahead → Type 0
IsAhead nodes link before (a.Done outcome) = (y : Exp) (c : Context) → linked_value nodes link before y c ≡ value outcome
IsAhead nodes link before (a.Operand xs) = (y : Exp) (c : Context) → linked_value nodes link before y c ≡ then_ (mean nodes y c) (joined_by nodes link xs)
IsAhead nodes link before (a.Turns xs) = (y : Exp) (c : Context) → linked_value nodes link before y c ≡ path nodes (turn nodes y c) xs

-- its nodes are those of the document
abbrev pub AheadWithin : ℕ → Ahead → Type 0
AheadWithin count (a.Done outcome) = ValueWithin count (value outcome)
AheadWithin count (a.Operand xs) = AreWithin count xs
AheadWithin count (a.Turns xs) = AreWithin count xs

-- the operator that this truth before it decides
abbrev pub deciding_link : Bool → Separator
deciding_link false = l.Operator o.And
deciding_link true = l.Operator o.Or

-- the operands of a chain, each with what stands before it
abbrev pub linked_parts : List Name → List (Separator × PlanNode) → List (Separator × Exp)
linked_parts names parts = map (λ part. (part.0, seen names part.1)) parts

-- the first part with the predicates behind it, in the order of its axis where it is a step
abbrev pub filtered_so : Bool → List Operand → Exp
filtered_so is_step [] = e.nothing
filtered_so true (part ∷ parts) = kept_of (in_axis_order part.1) parts
filtered_so false (part ∷ parts) = kept_of part.1 parts

-- `for`, `some` and `every` at the items of the first variable, with what stands inside it
abbrev pub bound_value : Binder → List Node → List Operand → List Item → Context → Value
bound_value binder nodes inner items c = bound_by binder (λ item. mean nodes (bound_all binder inner) (inside c item)) items
