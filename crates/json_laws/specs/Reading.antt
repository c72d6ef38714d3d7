-- The data of JSON text as the grammar of the library's reader has it, whose texts are bytes of UTF-8.
use Rattle.std.specs.Prelude.{ℕ, ◌^◌, Bool, true, false, ◌&&◌, nat_lt, List, [], Option, Some, None, encode_utf8_all, decimal}
use Rattle.json_text.specs.Json.{Json, nothing, a_text, a_number, an_array, an_object, is_nothing}
use Rattle.json.specs.Json as json

abbrev pub key_of : Option (List ℕ) → List ℕ
key_of (Some name) = encode_utf8_all name
key_of None = []

-- values side by side, as items of an array and as members of an object
abbrev mutual
  pub items_of : Json → json.Items
  items_of nothing = json.no_items
  items_of (a_text name characters rest) = json.item (json.string (encode_utf8_all characters)) (items_of rest)
  items_of (a_number name n rest) = json.item (json.number (decimal n)) (items_of rest)
  items_of (an_array name inside rest) = json.item (json.array (items_of inside)) (items_of rest)
  items_of (an_object name inside rest) = json.item (json.object (members_of inside)) (items_of rest)

  pub members_of : Json → json.Members
  members_of nothing = json.no_members
  members_of (a_text name characters rest) = json.member (key_of name) (json.string (encode_utf8_all characters)) (members_of rest)
  members_of (a_number name n rest) = json.member (key_of name) (json.number (decimal n)) (members_of rest)
  members_of (an_array name inside rest) = json.member (key_of name) (json.array (items_of inside)) (members_of rest)
  members_of (an_object name inside rest) = json.member (key_of name) (json.object (members_of inside)) (members_of rest)

-- the first value; where there is none, null
abbrev pub value_of : Json → json.Json
value_of nothing = json.null
value_of (a_text name characters rest) = json.string (encode_utf8_all characters)
value_of (a_number name n rest) = json.number (decimal n)
value_of (an_array name inside rest) = json.array (items_of inside)
value_of (an_object name inside rest) = json.object (members_of inside)

-- whether exactly one value stands here
abbrev pub is_one : Json → Bool
is_one nothing = false
is_one (a_text name characters rest) = is_nothing rest
is_one (a_number name n rest) = is_nothing rest
is_one (an_array name inside rest) = is_nothing rest
is_one (an_object name inside rest) = is_nothing rest

-- whether each number has 64 bits, as a pen's call takes it
abbrev pub numbers_fit : Json → Bool
numbers_fit nothing = true
numbers_fit (a_text name characters rest) = numbers_fit rest
numbers_fit (a_number name n rest) = nat_lt n (2 ^ 64) && numbers_fit rest
numbers_fit (an_array name inside rest) = numbers_fit inside && numbers_fit rest
numbers_fit (an_object name inside rest) = numbers_fit inside && numbers_fit rest
