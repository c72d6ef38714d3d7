-- The items that the text of JSON data is read as, with their places: these are counted along the text's layout.
use Rattle.std.specs.Prelude.{ℕ, ◌+◌, Bool, true, ◌&&◌, List, [], ◌∷◌, ◌++◌, length, Option, Some, None, decimal, encode_utf8_all}
use Rattle.std.specs.List.{list_any}
use lib.Utf8.{scalars}
use Rattle.json_text.specs.declared.state.JsonPlace.{JsonPlace}
use Rattle.json_text.specs.declared.state.JsonPlace.TheVariants.{Here, First, Behind}
use Rattle.json_text.specs.Json.{Json, nothing, a_text, a_number, an_array, an_object}
use Rattle.json_text.specs.Layout.{string_text, lead, name_if_any, closing_line, layout}
use Rattle.json_text.specs.Escapes.{is_escaped}
use Rattle.json_reading.specs.declared.item.Item.{Item}
use Rattle.json_reading.specs.declared.item.ItemKind.{ItemKind}
use Rattle.json_reading.specs.declared.item.ItemKind.TheVariants as kinds
use Rattle.json_reading.specs.declared.item.Span.{Span}
use Rattle.json_reading.specs.Reading.{span}

abbrev pub has_scalars : Option (List ℕ) → Bool
has_scalars (Some name) = scalars name
has_scalars None = true

-- whether each name and each text is made of Unicode scalar values
abbrev pub are_scalars : Json → Bool
are_scalars nothing = true
are_scalars (a_text name characters rest) = has_scalars name && (scalars characters && are_scalars rest)
are_scalars (a_number name n rest) = has_scalars name && are_scalars rest
are_scalars (an_array name inside rest) = has_scalars name && (are_scalars inside && are_scalars rest)
are_scalars (an_object name inside rest) = has_scalars name && (are_scalars inside && are_scalars rest)

-- how many bytes characters take
abbrev pub width : List ℕ → ℕ
width characters = length (encode_utf8_all characters)

-- whether one of the characters of a string is escaped
abbrev pub has_escape : List ℕ → Bool
has_escape characters = list_any is_escaped characters

-- the span of a string that begins at the place
abbrev pub string_span : ℕ → List ℕ → Span
string_span at characters = record { at = at; end = at + width (string_text characters); escaped = has_escape characters }

abbrev pub name_span : ℕ → Option (List ℕ) → Option Span
name_span at (Some name) = Some (string_span at name)
name_span at None = None

-- an array or object alone, in its brackets
abbrev pub bracketed : ℕ → ℕ → ℕ → Json → List ℕ
bracketed opening closing depth inside = opening ∷ (layout (depth + 1) First inside ++ (closing_line depth inside ++ closing ∷ []))

-- where the name of a value is, or would be: what leads them begins at the place
abbrev pub name_at : ℕ → ℕ → JsonPlace → ℕ
name_at at depth place = at + width (lead place depth)

-- where the value itself begins
abbrev pub value_at : ℕ → ℕ → JsonPlace → Option (List ℕ) → ℕ
value_at at depth place name = name_at at depth place + width (name_if_any name)

abbrev pub item : ItemKind → Option Span → Span → ℕ → Item
item kind name value inside = record { kind = kind; name = name; value = value; inside = inside }

-- The items of values that stand side by side at a depth, the first of them at that place of the layout. Their text begins at the
-- first number.
abbrev pub items_at : ℕ → ℕ → JsonPlace → Json → List Item
items_at at depth place nothing = []
items_at at depth place (a_text name characters rest) =
    let value = string_span (value_at at depth place name) characters in
    item kinds.Text (name_span (name_at at depth place) name) value 0 ∷ items_at value.end depth Behind rest
items_at at depth place (a_number name n rest) =
    let begin = value_at at depth place name in
    let end = begin + width (decimal n) in
    item kinds.Number (name_span (name_at at depth place) name) (span begin end) 0 ∷ items_at end depth Behind rest
items_at at depth place (an_array name inside rest) =
    let begin = value_at at depth place name in
    let end = begin + width (bracketed 0x5B 0x5D depth inside) in
    let within = items_at (begin + 1) (depth + 1) First inside in
    item kinds.Array (name_span (name_at at depth place) name) (span begin end) (length within) ∷ (within ++ items_at end depth Behind rest)
items_at at depth place (an_object name inside rest) =
    let begin = value_at at depth place name in
    let end = begin + width (bracketed 0x7B 0x7D depth inside) in
    let within = items_at (begin + 1) (depth + 1) First inside in
    item kinds.Object (name_span (name_at at depth place) name) (span begin end) (length within) ∷ (within ++ items_at end depth Behind rest)

-- the items of the whole text of a value
abbrev pub items_of : Json → List Item
items_of value = items_at 0 0 Here value
