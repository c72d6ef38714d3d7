-- The characters of a class, and what stands behind a backslash.
use Rattle.std.specs.Prelude.{ℕ, Bool, true, false, not, ◌&&◌, ◌||◌, [], ◌∷◌, Option, Some, None, option_map, nat_le, ◌==◌, if◌then◌else◌}
use Rattle.std.specs.List.{list_any}
use Rattle.inv_base.specs.Characters.{is_char}
use Rattle.xsd_pattern.specs.declared.token.Member.{Member}
use Rattle.xsd_pattern.specs.declared.token.Member.TheVariants.{Range, Digit, NotDigit, Space, NotSpace}
use Rattle.xsd_pattern.specs.declared.token.Class.{Class}
use Rattle.xsd_pattern.specs.declared.token.Repeat.{Repeat}
use Rattle.xsd_pattern.specs.declared.token.Repeat.TheVariants.{Question, Star, Plus, Counted}

abbrev pub is_within : ℕ → ℕ → ℕ → Bool
is_within low high c = nat_le low c && nat_le c high

abbrev pub is_digit : ℕ → Bool
is_digit c = is_within 0x30 0x39 c

-- TAB, LF, CR and space
abbrev pub is_space : ℕ → Bool
is_space c = c == 9 || (c == 10 || (c == 13 || c == 32))

abbrev pub is_member : ℕ → Member → Bool
is_member c (Range low high) = is_within low high c
is_member c Digit = is_digit c
is_member c NotDigit = not (is_digit c)
is_member c Space = is_space c
is_member c NotSpace = not (is_space c)

abbrev pub differs : Bool → Bool → Bool
differs true b = not b
differs false b = b

-- the character is one of the class
abbrev pub has : Class → ℕ → Bool
has class c = differs class.negated (list_any (is_member c) class.members)

abbrev pub class_of : Member → Class
class_of member = record { negated = false; members = member ∷ [] }

abbrev pub single : ℕ → Member
single c = Range c c

-- the class of `.`
abbrev pub any_but_line_feed : Class
any_but_line_feed = record { negated = true; members = single 10 ∷ [] }

-- every character
abbrev pub any : Class
any = record { negated = true; members = [] }

-- . \ ? * + { } ( ) [ ] | ^ $
abbrev pub is_special : ℕ → Bool
is_special c = c == 0x2E || (c == 0x5C || (c == 0x3F || (c == 0x2A || (c == 0x2B || (c == 0x7B || (c == 0x7D || (c == 0x28 || (c == 0x29
    || (c == 0x5B || (c == 0x5D || (c == 0x7C || (c == 0x5E || c == 0x24))))))))))))

-- a character that stands for itself
abbrev pub is_plain : ℕ → Bool
is_plain c = is_char c && not (is_special c)

-- [ ] \ - ^
abbrev pub is_special_inside : ℕ → Bool
is_special_inside c = c == 0x5B || (c == 0x5D || (c == 0x5C || (c == 0x2D || c == 0x5E)))

-- a character that stands for itself in brackets
abbrev pub is_plain_inside : ℕ → Bool
is_plain_inside c = is_char c && not (is_special_inside c)

-- the one character that a letter behind a backslash stands for
abbrev pub escaped_one : ℕ → Option ℕ
escaped_one letter = if is_special letter || letter == 0x2D then Some letter
    else (if letter == 0x6E then Some 10 else (if letter == 0x72 then Some 13 else (if letter == 0x74 then Some 9 else None)))

-- the several: d, D, s, S
abbrev pub escaped_several : ℕ → Option Member
escaped_several letter = if letter == 0x64 then Some Digit else (if letter == 0x44 then Some NotDigit
    else (if letter == 0x73 then Some Space else (if letter == 0x53 then Some NotSpace else None)))

abbrev pub or_else : {A : Type 0} → Option A → Option A → Option A
or_else (Some x) other = Some x
or_else None other = other

abbrev pub escaped : ℕ → Option Member
escaped letter = or_else (option_map single (escaped_one letter)) (escaped_several letter)

-- ---- how often

abbrev pub least : Repeat → ℕ
least Question = 0
least Star = 0
least Plus = 1
least (Counted n more) = n

-- how many more there may be, none where any number
abbrev pub more : Repeat → Option ℕ
more Question = Some 1
more Star = None
more Plus = None
more (Counted n m) = m
