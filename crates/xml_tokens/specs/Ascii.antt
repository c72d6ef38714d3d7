-- Tests of single bytes for those of characters.
use Rattle.std.specs.Prelude.{◌≡◌, ℕ, Bool, true, false, not, ◌&&◌, ◌||◌, ◌==◌, nat_lt, nat_le, List, [], ◌∷◌, ◌++◌}
use Rattle.std.specs.List.{list_all}
use Rattle.inv_base.specs.Characters.{is_name_char, is_name_start}
use Rattle.xml_tokens.specs.Told.{ends_run}

-- No character but Chars has the byte in UTF-8: it is no control character but white space, and not 0xEF, with which the
-- characters from U+F000 to U+FFFF begin.
abbrev pub is_calm : ℕ → Bool
is_calm b = (nat_le 0x20 b && not (b == 0xEF)) || (b == 0x9 || (b == 0xA || b == 0xD))

abbrev pub is_restless : ℕ → Bool
is_restless b = not (is_calm b)

-- It ends a run, or isn't calm.
abbrev pub stirs : ℕ → Bool
stirs b = ends_run b || is_restless b

-- an NCNameChar of ASCII
abbrev pub is_plain_name_char : ℕ → Bool
is_plain_name_char b = nat_lt b 128 && is_name_char b

-- a character of ASCII with which an NCName begins
abbrev pub is_plain_name_start : ℕ → Bool
is_plain_name_start b = nat_lt b 128 && is_name_start b

-- an NCName of ASCII
abbrev pub is_plain_ncname : List ℕ → Bool
is_plain_ncname [] = false
is_plain_ncname (b ∷ bytes) = is_plain_name_start b && list_all is_plain_name_char bytes

-- a QName of ASCII
pub data IsPlainName : List ℕ → Type 0 where
  plain_local : (name : List ℕ) → is_plain_ncname name ≡ true → IsPlainName name
  plain_prefixed : (prefix local : List ℕ) → is_plain_ncname prefix ≡ true → is_plain_ncname local ≡ true → IsPlainName (prefix ++ (0x3A ∷ local))
