-- How the value of an expression is listed for a person.
use Rattle.std.specs.Prelude.{ℕ, List, [], ◌∷◌, ◌++◌, codes, encode_utf8_all, flat_map, Ok, Err}
use Rattle.inv_base.specs.Outside.{SinkView}
use Rattle.inv_base.specs.Text.{quoted}
use Rattle.inv_base.specs.Tree.{Node}
use Rattle.inv_base.specs.Writing.{IsFront, WritesAll}
use Rattle.inv_decimal.specs.WrittenDay.{dashed_day_text}
use Rattle.inv_decimal.specs.WrittenNumber.{decimal_text}
use Rattle.node_locations.specs.Locations.{location}
use Rattle.xpath_items.specs.declared.item.Item.{Item}
use Rattle.xpath_items.specs.declared.item.Item.TheVariants as i
use Rattle.xpath_items.specs.declared.outcome.DynError.{DynError}
use Rattle.xpath_items.specs.Codes.{code_text}
use Rattle.xpath_meaning.specs.Items.{string_at, boolean_text}
use Rattle.xpath_meaning.specs.Values.{Value}
use Rattle.xpath_operators.specs.Nodes.{AreWithin}

abbrev pub line : List ℕ → List ℕ
line text = text ++ 0xA ∷ []

-- a location, and a quoted string
abbrev pub placed_line : List ℕ → List ℕ → List ℕ
placed_line place string = encode_utf8_all place ++ (0x20 ∷ line (encode_utf8_all (quoted string)))

-- The line of an item in UTF-8: a boolean, a number or a day bare, a text quoted, and a node by its location and its
-- quoted string.
abbrev pub item_line : List Node → Item → List ℕ
item_line nodes (i.Node n) = placed_line (location nodes n) (string_at nodes n)
item_line nodes (i.Boolean b) = line (boolean_text b)
item_line nodes (i.Number z) = line (decimal_text z)
item_line nodes (i.String s) = line (encode_utf8_all (quoted s))
item_line nodes (i.Untyped s) = line (encode_utf8_all (quoted s))
item_line nodes (i.Date day) = line (dashed_day_text day)

-- the line of an error
abbrev pub error_line : DynError → List ℕ
error_line error = codes "error " ++ line (code_text error)

-- a line an item in their order, nothing for no item; or the error
abbrev pub listed : List Node → Value → List ℕ
listed nodes (Ok items) = flat_map (item_line nodes) items
listed nodes (Err error) = error_line error

-- The nodes of a value are among so many.
abbrev pub ValueWithin : ℕ → Value → Type 0
ValueWithin count (Ok items) = AreWithin count items
ValueWithin count (Err error) = Unit {0}

-- A front of the text was written, and no write failed.
pub record WritesSome (text : List ℕ) (before after : SinkView) : Type 0 where
  pub front : List ℕ
  pub is_front : IsFront front text
  pub writes : WritesAll front before after
