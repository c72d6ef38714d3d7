-- What is asked of items: their text, their atomic value, and the truth of a sequence of them.
use Rattle.std.specs.Prelude.{ℕ, Bool, true, false, not, List, [], ◌∷◌, map, Result, Ok, Err, codes, ◌==◌, unsigned_abs}
use Rattle.inv_base.specs.Tree.{Node, string_of}
use Rattle.node_arena.specs.Moves.{tree_node}
use Rattle.inv_decimal.specs.WrittenNumber.{decimal_text}
use Rattle.inv_decimal.specs.WrittenDay.{dashed_day_text}
use Rattle.xpath_items.specs.declared.item.Item.{Item}
use Rattle.xpath_items.specs.declared.item.Item.TheVariants as i
use Rattle.xpath_items.specs.declared.outcome.DynError.{DynError}
use Rattle.xpath_items.specs.declared.outcome.DynError.TheVariants as e

-- the string of the node of that number (XQuery 1.0 and XPath 2.0 Data Model, section 5.13)
abbrev pub string_at : List Node → ℕ → List ℕ
string_at nodes n = string_of nodes (tree_node nodes n)

abbrev pub boolean_text : Bool → List ℕ
boolean_text true = codes "true"
boolean_text false = codes "false"

-- the text of an item (Functions and Operators, sections 2.3 and 17.1.2)
abbrev pub text_of : List Node → Item → List ℕ
text_of nodes (i.Node n) = string_at nodes n
text_of nodes (i.Boolean b) = boolean_text b
text_of nodes (i.Number z) = decimal_text z
text_of nodes (i.String s) = s
text_of nodes (i.Untyped s) = s
text_of nodes (i.Date day) = dashed_day_text day

-- Atomization (section 2.4.2): of a node its string, of no type, since no schema is known.
abbrev pub atom : List Node → Item → Item
atom nodes (i.Node n) = i.Untyped (string_at nodes n)
atom nodes (i.Boolean b) = i.Boolean b
atom nodes (i.Number z) = i.Number z
atom nodes (i.String s) = i.String s
atom nodes (i.Untyped s) = i.Untyped s
atom nodes (i.Date day) = i.Date day

abbrev pub atomised : List Node → List Item → List Item
atomised nodes items = map (atom nodes) items

abbrev pub is_empty : {X : Type 0} → List X → Bool
is_empty [] = true
is_empty (x ∷ xs) = false

abbrev pub is_zero : ℕ → Bool
is_zero n = n == 0

-- the truth of one item
abbrev pub truth_of_one : Item → Result Bool DynError
truth_of_one (i.Node n) = Ok true
truth_of_one (i.Boolean b) = Ok b
truth_of_one (i.Number z) = Ok (not (is_zero (unsigned_abs z)))
truth_of_one (i.String s) = Ok (not (is_empty s))
truth_of_one (i.Untyped s) = Ok (not (is_empty s))
truth_of_one (i.Date day) = Err e.FORG0006

-- the truth of several, by the first
abbrev pub truth_of_many : Item → Result Bool DynError
truth_of_many (i.Node n) = Ok true
truth_of_many _ = Err e.FORG0006

-- the truth of a sequence (effective boolean value, section 2.4.3)
abbrev pub truth : List Item → Result Bool DynError
truth [] = Ok false
truth (x ∷ []) = truth_of_one x
truth (x ∷ (y ∷ items)) = truth_of_many x
