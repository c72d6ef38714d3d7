-- Calls that look at nothing but how many items their argument has.
use Rattle.std.specs.Prelude.{◌≡◌, not, List, [], ◌∷◌, length}
use Rattle.inv_base.specs.Tree.{Node}
use Rattle.xpath_items.specs.declared.item.Item.{Item}
use Rattle.xpath_items.specs.declared.outcome.Focus.{Focus}
use Rattle.xpath_meaning.specs.Values.{Value}
use Rattle.xpath_meaning.specs.Items.{is_empty}
use Rattle.xpath_meaning.specs.Numbers.{counted}
use Rattle.xpath_meaning.specs.Functions.{call, yes_or_no}
use Rattle.xpath_plan.specs.declared.plan_node.Operation.{Operation}
use Rattle.xpath_plan.specs.declared.plan_node.Operation.TheVariants as m
use Rattle.xpath_parts.specs.declared.sizes.Sizing.{Sizing}
use Rattle.xpath_parts.specs.declared.sizes.Sizing.TheVariants as s

abbrev pub sized : Sizing → List Item → Value
sized s.Exists items = yes_or_no (not (is_empty items))
sized s.Empty items = yes_or_no (is_empty items)
sized s.Count items = counted (length items)

-- The kind is such a call.
abbrev pub IsSizing : Operation → Sizing → Type 0
IsSizing (m.Call function) sizing = (nodes : List Node) (focus : Focus) (items : List Item) → call nodes function focus (items ∷ []) ≡ sized sizing items
IsSizing _ sizing = ⊥
