-- What a list of bytes or characters begins with, and where a string or the end of a tag first stands in it.
use Rattle.std.specs.Prelude.{ℕ, ◌+◌, zero, suc, Bool, true, false, ◌&&◌, ◌||◌, ◌==◌, List, [], ◌∷◌, length, drop, Option, Some, None, option_map}
use Rattle.std.specs.Prelude.{if◌then◌else◌}

-- The list begins with the string.
abbrev pub begins_with : List ℕ → List ℕ → Bool
begins_with [] list = true
begins_with (c ∷ string) [] = false
begins_with (c ∷ string) (b ∷ list) = b == c && begins_with string list

-- The list ends inside the string that it begins to spell.
abbrev pub ends_inside : List ℕ → List ℕ → Bool
ends_inside [] list = false
ends_inside (c ∷ string) [] = true
ends_inside (c ∷ string) (b ∷ list) = b == c && ends_inside string list

-- how much of the string the list begins with
abbrev pub shared_front : List ℕ → List ℕ → ℕ
shared_front [] list = 0
shared_front (c ∷ string) [] = 0
shared_front (c ∷ string) (b ∷ list) = if b == c then 1 + shared_front string list else 0

-- what stands behind the string, where the list begins with it
abbrev pub behind_string : List ℕ → List ℕ → Option (List ℕ)
behind_string string list = if begins_with string list then Some (drop (length string) list) else None

-- how much stands before the first place at which the string stands
abbrev pub place_of : List ℕ → List ℕ → Option ℕ
place_of string [] = None
place_of string (b ∷ list) = elim (begins_with string (b ∷ list)) [
  | true ↦ Some 0
  | false ↦ option_map (λ n. 1 + n) (place_of string list)
]

-- `"` and `'`
abbrev pub is_quote : ℕ → Bool
is_quote b = b == 0x22 || b == 0x27

-- Where a tag ends: the first `>` outside quotes stands behind so many bytes, or none stands within the room, or none
-- stands in the bytes, which have fewer.
pub data TagEnd : Type 0 where
  behind : ℕ → TagEnd
  none_within : TagEnd
  none_yet : TagEnd

-- the end of a tag by one byte more at its front
abbrev pub one_farther : TagEnd → TagEnd
one_farther (behind n) = behind (1 + n)
one_farther none_within = none_within
one_farther none_yet = none_yet

-- the quote that is open behind a byte
abbrev pub quote_behind : Option ℕ → ℕ → Option ℕ
quote_behind None b = if is_quote b then Some b else None
quote_behind (Some quote) b = if b == quote then None else Some quote

-- The byte ends a tag in which this quote is open.
abbrev pub ends_tag : Option ℕ → ℕ → Bool
ends_tag None b = b == 0x3E
ends_tag (Some quote) b = false

-- the end of a tag of which so many further bytes may be searched, behind an open quote
abbrev pub tag_end : List ℕ → Option ℕ → ℕ → TagEnd
tag_end [] quote zero = none_within
tag_end [] quote (suc room) = none_yet
tag_end (b ∷ bytes) quote zero = none_within
tag_end (b ∷ bytes) quote (suc room) = elim (ends_tag quote b) [
  | true ↦ behind 0
  | false ↦ one_farther (tag_end bytes (quote_behind quote b) room)
]
