-- The parameters of an abstract pattern in the attributes of a use of it (ISO/IEC 19757-3, sections 5.4.8 and 6.2):
-- `$` and the longest name behind it become the value of the parameter of that name. Every other `$` stays, so that it
-- may begin a variable of an expression. The text is gone over once from left to right, and what is put in isn't read
-- again.
-- Deviation: the value is put into texts in quotes too.
use Rattle.std.specs.Prelude.{◌≡◌, ℕ, zero, suc, true, false, ◌+◌, ◌<◌, ◌≤◌, ◌==◌, List, [], ◌∷◌, ◌++◌, length, take, map, Option, Some, None, is_some}
use Rattle.std.specs.Prelude.{if◌then◌else◌, chars, String, string_bytes, encode_utf8_all, MatchOption}
use Rattle.std.specs.Global.{Global}
use Rattle.std.specs.List.{prefix_len}
use Rattle.std.specs.Str.{bytes_eq}
use Rattle.inv_base.specs.Characters.{is_name_start, is_name_char}

-- a parameter: its name, and what is put in for it
pub record Parameter : Type 0 where
  pub name : List ℕ
  pub value : List ℕ

-- the value of the first parameter of the name
abbrev pub value_of : List Parameter → List ℕ → Option (List ℕ)
value_of [] name = None
value_of (parameter ∷ others) name = elim (bytes_eq name parameter.name) [ true ↦ Some parameter.value | false ↦ value_of others name ]

-- one parameter more: the first of a name counts
abbrev pub with_parameter : List Parameter → List ℕ → List ℕ → List Parameter
with_parameter parameters name value = if is_some (value_of parameters name) then parameters else parameters ++ record { name = name; value = value } ∷ []

-- how many characters at the front are a name, an NCName (Namespaces in XML 1.0, production 4): as many as can be, or
-- none
abbrev pub name_length : List ℕ → ℕ
name_length [] = 0
name_length (c ∷ text) = elim (is_name_start c) [ true ↦ 1 + prefix_len is_name_char text | false ↦ 0 ]

-- what is put in for a `$` that stands before the text and for the name behind it, if anything is
abbrev pub value_before : List Parameter → List ℕ → Option (List ℕ)
value_before parameters text = elim (name_length text) [ zero ↦ None | suc n ↦ value_of parameters (take (suc n) text) ]

-- the same for any character
abbrev pub value_at : List Parameter → ℕ → List ℕ → Option (List ℕ)
value_at parameters c text = elim (c == 36) [ true ↦ value_before parameters text | false ↦ None ]

-- what the text becomes, of which so many characters at the front belong to a name that was replaced
abbrev pub replaced_behind : List Parameter → ℕ → List ℕ → List ℕ
replaced_behind parameters skipped [] = []
replaced_behind parameters (suc skipped) (c ∷ text) = replaced_behind parameters skipped text
replaced_behind parameters zero (c ∷ text) = elim (value_at parameters c text) [
  | None ↦ c ∷ replaced_behind parameters zero text
  | Some value ↦ value ++ replaced_behind parameters (name_length text) text
]

-- what the text becomes
abbrev pub replaced : List Parameter → List ℕ → List ℕ
replaced parameters text = replaced_behind parameters 0 text

-- the parameters that a map holds
abbrev pub parameters_in : List (String Global × String Global) → List Parameter
parameters_in entries = map (λ entry. record { name = chars (string_bytes entry.0); value = chars (string_bytes entry.1) }) entries

-- how many bytes the characters have in UTF-8
abbrev pub bytes_of : List ℕ → ℕ
bytes_of characters = length (encode_utf8_all characters)

-- The text was made where it has at most so many bytes, and wasn't where it has more.
abbrev pub IsWithin : {Z : Type 0} → ℕ → List ℕ → Option (String Z) → Type 0
IsWithin most whole made = MatchOption made (most < bytes_of whole) (λ s. (chars (string_bytes s) ≡ whole) × (bytes_of whole ≤ most))
