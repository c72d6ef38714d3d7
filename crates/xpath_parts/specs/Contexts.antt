-- What an expression of a plan is evaluated in.
use Rattle.std.specs.Prelude.{◌≡◌, ℕ, List, length, map, reverse}
use Rattle.inv_base.specs.Tree.{Name}
use Rattle.node_arena.specs.Moves.{tree_nodes}
use Rattle.xpath_items.specs.declared.item.Item.{Item}
use Rattle.xpath_items.specs.declared.outcome.Focus.{Focus}
use Rattle.xpath_meaning.specs.Values.{Value}
use Rattle.xpath_meaning.specs.Expressions.{Exp}
use Rattle.xpath_meaning.specs.Resolving.{Operand}
use Rattle.xpath_meaning.specs.Meaning.{Context, mean}
use Rattle.xpath_operators.specs.Nodes.{IsWithin, AreWithin}
use Rattle.xpath_plan.specs.declared.plan_node.Separator.{Separator}
use Rattle.xpath_plan.specs.declared.plan_node.PlanNode.{PlanNode}
use Rattle.xpath_plan.specs.Plans.{label_of, seen}
use Rattle.xpath_steps.specs.Variables.{ValuesWithin}
use Rattle.xpath_walks.specs.Tests.{numbers_of}
use Rattle.xpath_parts.specs.declared.dynamic.DynamicContext.{DynamicContext}

-- how many nodes the document has
abbrev pub count : DynamicContext → ℕ
count base = length base.doc.now.nodes

-- The items of bound variables are kept with the outermost first.
abbrev pub context : DynamicContext → Focus → List Item → Context
context base focus bound = record { focus = focus; bound = reverse bound; outer = base.env.now }

-- the value of an expression there
abbrev pub value_in : DynamicContext → Exp → Focus → List Item → Value
value_in base e focus bound = mean (tree_nodes base.doc.now) e (context base focus bound)

-- the parts of a work as the grammar has them
abbrev pub operands_of : List Name → List (Separator × PlanNode) → List Operand
operands_of names parts = map (λ part. (label_of part.0, seen names part.1)) parts

-- The names have their numbers in the document.
abbrev pub IsNumbered : DynamicContext → Type 0
IsNumbered base = base.numbers.now ≡ numbers_of base.doc.now.names base.names.now

-- The names have their numbers in the document, and all nodes that are met are the document's.
pub record IsReady (base : DynamicContext) (focus : Focus) (bound : List Item) : Type 0 where
  pub numbered : IsNumbered base
  pub variables : ValuesWithin (count base) base.env.now
  pub item : IsWithin (count base) focus.item
  pub inside : AreWithin (count base) bound

-- The same of the bound items alone.
pub record IsReadyFor (base : DynamicContext) (bound : List Item) : Type 0 where
  pub numbered : IsNumbered base
  pub variables : ValuesWithin (count base) base.env.now
  pub inside : AreWithin (count base) bound

-- a turn of a step or a predicate
abbrev pub turn_in : DynamicContext → Exp → List Item → Item → ℕ → ℕ → Value
turn_in base e bound item position last = value_in base e (record { item = item; position = position; last = last }) bound
