-- The text of JSON data (RFC 8259), laid out as JSON.stringify (ECMA-262) lays it out with two spaces a level. Text is grouped to
-- the right.
use Rattle.std.specs.Prelude.{ℕ, zero, suc, ◌+◌, ◌/◌, ◌%◌, ◌==◌, nat_lt, List, [], ◌∷◌, ◌++◌, Option, Some, None, decimal, flat_map, if◌then◌else◌}
use Rattle.json_text.specs.declared.state.JsonPlace.{JsonPlace}
use Rattle.json_text.specs.declared.state.JsonPlace.TheVariants.{Here, First, Behind}
use Rattle.json_text.specs.Json.{Json, nothing, a_text, a_number, an_array, an_object}

-- what stands behind a backslash for a character that has such a short escape
unfoldable pub short_escape : ℕ → Option ℕ
short_escape c =
    if c == 0x22 then Some 0x22
    else (if c == 0x5C then Some 0x5C
    else (if c == 0x8 then Some 0x62
    else (if c == 0xC then Some 0x66
    else (if c == 0xA then Some 0x6E
    else (if c == 0xD then Some 0x72
    else (if c == 0x9 then Some 0x74
    else None))))))

-- a digit of 0-9a-f
abbrev pub hex_digit : ℕ → ℕ
hex_digit d = if nat_lt d 10 then 0x30 + d else 0x57 + d

-- a backslash, `u00` and two digits
abbrev pub long_escape : ℕ → List ℕ
long_escape c = 0x5C ∷ 0x75 ∷ 0x30 ∷ 0x30 ∷ hex_digit (c / 16) ∷ hex_digit (c % 16) ∷ []

abbrev pub escape_by : Option ℕ → ℕ → List ℕ
escape_by (Some letter) c = 0x5C ∷ letter ∷ []
escape_by None c = if nat_lt c 0x20 then long_escape c else c ∷ []

-- What stands for a character in a string: its short escape, the long one for every other control character, or itself.
unfoldable pub character_text : ℕ → List ℕ
character_text c = escape_by (short_escape c) c

-- a string by its characters
abbrev pub string_text : List ℕ → List ℕ
string_text characters = 0x22 ∷ (flat_map character_text characters ++ 0x22 ∷ [])

-- two spaces for each level
abbrev pub indent : ℕ → List ℕ
indent zero = []
indent (suc depth) = 0x20 ∷ 0x20 ∷ indent depth

-- a new line at a depth
abbrev pub new_line : ℕ → List ℕ
new_line depth = 0xA ∷ indent depth

-- What leads a value, or its name if it has one: nothing where it has to follow at once, a new line for the first in an array or
-- object, and a comma and a new line for every other.
abbrev pub lead : JsonPlace → ℕ → List ℕ
lead Here depth = []
lead First depth = new_line depth
lead Behind depth = 0x2C ∷ new_line depth

-- a member's name and what parts it from its value
abbrev pub name_text : List ℕ → List ℕ
name_text name = string_text name ++ 0x3A ∷ 0x20 ∷ []

abbrev pub name_if_any : Option (List ℕ) → List ℕ
name_if_any (Some name) = name_text name
name_if_any None = []

-- what leads the bracket that ends an array or object: nothing in an empty one, else a new line
abbrev pub closing_line : ℕ → Json → List ℕ
closing_line depth nothing = []
closing_line depth (a_text name characters rest) = new_line depth
closing_line depth (a_number name n rest) = new_line depth
closing_line depth (an_array name inside rest) = new_line depth
closing_line depth (an_object name inside rest) = new_line depth

-- The text of values that stand side by side at a depth, the first of them at that place.
abbrev pub layout : ℕ → JsonPlace → Json → List ℕ
layout depth place nothing = []
layout depth place (a_text name characters rest) =
    lead place depth ++ (name_if_any name ++ (string_text characters ++ layout depth Behind rest))
layout depth place (a_number name n rest) =
    lead place depth ++ (name_if_any name ++ (decimal n ++ layout depth Behind rest))
layout depth place (an_array name inside rest) =
    lead place depth
    ++ (name_if_any name
    ++ 0x5B ∷ (layout (depth + 1) First inside ++ (closing_line depth inside ++ 0x5D ∷ layout depth Behind rest)))
layout depth place (an_object name inside rest) =
    lead place depth
    ++ (name_if_any name
    ++ 0x7B ∷ (layout (depth + 1) First inside ++ (closing_line depth inside ++ 0x7D ∷ layout depth Behind rest)))

-- the whole text of a value at the top, a line feed at its end
abbrev pub document : Json → List ℕ
document value = layout 0 Here value ++ 0xA ∷ []
