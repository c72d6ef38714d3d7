-- Names as they are written, by their bytes in UTF-8 (Namespaces in XML 1.0, productions 4 and 7): an NCName, or two
-- with a colon between them.
use Rattle.std.specs.Prelude.{ℕ, Bool, false, ◌&&◌, ◌||◌, ◌==◌, List, [], ◌∷◌, if◌then◌else◌, chars}
use Rattle.std.specs.List.{list_all, list_any, before_first, after_first}
use Rattle.inv_base.specs.Characters.{is_name_start, is_name_char, is_white_space}

-- the colon
abbrev pub is_colon : ℕ → Bool
is_colon c = c == 0x3A

-- NCName, by its characters
abbrev pub is_ncname : List ℕ → Bool
is_ncname [] = false
is_ncname (c ∷ characters) = is_name_start c && list_all is_name_char characters

-- the prefix of a name: what stands before its first colon, empty where it has none
abbrev pub prefix_of : List ℕ → List ℕ
prefix_of name = if list_any is_colon name then before_first is_colon name else []

-- the local part: what stands behind the prefix and its colon, else the whole name
abbrev pub local_of : List ℕ → List ℕ
local_of name = if list_any is_colon name then after_first is_colon name else name

-- QName
unfoldable pub is_qname : List ℕ → Bool
is_qname name = if list_any is_colon name then is_ncname (chars (prefix_of name)) && is_ncname (chars (local_of name)) else is_ncname (chars name)

-- A byte ends a name in a tag: white space, `=` or `/`.
abbrev pub ends_name : ℕ → Bool
ends_name b = is_white_space b || (b == 0x3D || b == 0x2F)

-- what stands before the end of a name
abbrev pub name_at_front : List ℕ → List ℕ
name_at_front bytes = before_first ends_name bytes
