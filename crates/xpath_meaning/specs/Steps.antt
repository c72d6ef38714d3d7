-- Steps, predicates, paths and sets of nodes (XPath 2.0, sections 3.2 and 3.3.3).
use Rattle.std.specs.Prelude.{ℕ, suc, ◌*◌, Bool, true, false, not, ◌&&◌, ◌||◌, ◌==◌, List, [], ◌∷◌, length, map, filter, Result, Ok, Err, ℤ, unsigned_abs}
use Rattle.std.specs.Int.{is_negative}
use Rattle.std.specs.List.{list_any, list_all}
use Rattle.inv_base.specs.Tree.{Node}
use Rattle.inv_decimal.specs.Number.{unit}
use Rattle.xpath_tokens.specs.declared.token.Operator.{Operator}
use Rattle.xpath_tokens.specs.declared.token.Operator.TheVariants as o
use Rattle.xpath_grammar.specs.declared.step.Axis.{Axis}
use Rattle.xpath_items.specs.declared.item.Item.{Item}
use Rattle.xpath_items.specs.declared.item.Item.TheVariants as i
use Rattle.xpath_items.specs.declared.outcome.DynError.{DynError}
use Rattle.xpath_items.specs.declared.outcome.DynError.TheVariants as e
use Rattle.xpath_meaning.specs.Values.{Value, then_, joined}
use Rattle.xpath_meaning.specs.Items.{truth}
use Rattle.xpath_meaning.specs.Expressions.{NodeTest}
use Rattle.xpath_meaning.specs.Axes.{on_axis}

-- Nodes among items

abbrev pub is_node : Item → Bool
is_node (i.Node n) = true
is_node _ = false

abbrev pub is_node_of : ℕ → Item → Bool
is_node_of n (i.Node m) = m == n
is_node_of n _ = false

abbrev pub has_node : List Item → ℕ → Bool
has_node items n = list_any (is_node_of n) items

abbrev pub node_item : Node → Item
node_item node = i.Node node.number

-- the nodes whose numbers pass, in document order
abbrev pub nodes_where : List Node → (ℕ → Bool) → List Item
nodes_where nodes test = map node_item (filter (λ node. test node.number) nodes)

-- the nodes of a list in document order, each once
abbrev pub in_document_order : List Node → List Item → List Item
in_document_order nodes items = nodes_where nodes (has_node items)

-- At an item that is no node there is neither a root nor an axis.

abbrev pub at_node : (ℕ → List Item) → Item → Value
at_node f (i.Node n) = Ok (f n)
at_node f _ = Err e.XPTY0020

abbrev pub root_of : Item → Value
root_of item = at_node (λ n. i.Node 0 ∷ []) item

abbrev pub axis_items : List Node → Axis → NodeTest → ℕ → List Item
axis_items nodes axis test n = map node_item (on_axis nodes axis test n)

abbrev pub step_from : List Node → Axis → NodeTest → Item → Value
step_from nodes axis test item = at_node (axis_items nodes axis test) item

-- Predicates (section 3.2.2)

abbrev pub is_position : ℤ → ℕ → Bool
is_position z position = not (is_negative z) && unsigned_abs z == position * unit

-- one number tests the position, any other value goes by its truth
abbrev pub keeps : ℕ → List Item → Result Bool DynError
keeps position (i.Number z ∷ []) = Ok (is_position z position)
keeps position items = truth items

abbrev pub with_kept : Bool → Item → List Item → List Item
with_kept true x items = x ∷ items
with_kept false x items = items

-- The items that a predicate keeps. It is given an item, its position, of which the first is given, and how many there
-- are.
abbrev pub kept : (Item → ℕ → ℕ → Value) → ℕ → ℕ → List Item → Value
kept predicate last position [] = Ok []
kept predicate last position (x ∷ items) = then_ (predicate x position last)
    (λ answer. then_ (keeps position answer) (λ is_kept. then_ (kept predicate last (suc position) items) (λ others. Ok (with_kept is_kept x others))))

abbrev pub filtered_by : (Item → ℕ → ℕ → Value) → List Item → Value
filtered_by predicate items = kept predicate (length items) 1 items

-- Paths (section 3.2)

-- the values of the turns, one for each item
abbrev pub turns : (Item → ℕ → ℕ → Value) → ℕ → ℕ → List Item → Value
turns step last position [] = Ok []
turns step last position (x ∷ items) = joined (step x position last) (turns step last (suc position) items)

-- nodes in document order, or other items as they come, but no mixture
abbrev pub of_turns : List Node → List Item → Value
of_turns nodes items = elim (list_all is_node items) [
  | true ↦ Ok (in_document_order nodes items)
  | false ↦ elim (list_any is_node items) [ true ↦ Err e.XPTY0018 | false ↦ Ok items ]
]

-- the step is taken at each item, which must all be nodes
abbrev pub path : List Node → (Item → ℕ → ℕ → Value) → List Item → Value
path nodes step items = elim (list_all is_node items) [
  | true ↦ then_ (turns step (length items) 1 items) (of_turns nodes)
  | false ↦ Err e.XPTY0019
]

-- Sets of nodes (section 3.3.3)

abbrev pub is_in_set : Operator → List Item → List Item → ℕ → Bool
is_in_set o.Intersect xs ys n = has_node xs n && has_node ys n
is_in_set o.Except xs ys n = has_node xs n && not (has_node ys n)
is_in_set _ xs ys n = has_node xs n || has_node ys n

abbrev pub set_of : List Node → Operator → List Item → List Item → Value
set_of nodes operator xs ys = elim (list_all is_node xs && list_all is_node ys) [
  | true ↦ Ok (nodes_where nodes (is_in_set operator xs ys))
  | false ↦ Err e.XPTY0004
]
