-- References (XML 1.0, productions 66 and 68): by number to a character, or by name to one of the five predefined
-- entities.
use Rattle.std.specs.Prelude.{ℕ, ◌+◌, ◌*◌, zero, suc, Bool, true, false, ◌||◌, ◌==◌, List, [], ◌∷◌, length, drop, Option, Some, None, option_and_then}
use Rattle.std.specs.Prelude.{if◌then◌else◌, bytes_eq, codes}
use Rattle.std.specs.Char.{is_digit, digit_value}
use Rattle.inv_base.specs.Characters.{is_within, is_char}
use Rattle.xml_tokens.specs.declared.encoding.Begun.{Begun}
use Rattle.xml_tokens.specs.Searches.{begins_with}
use Rattle.xml_tokens.specs.declared.encoding.Begun.TheVariants.{Character, Broken, Unfinished}

-- A letter or digit of ASCII, or `#`: what may stand between `&` and `;`.
abbrev pub is_reference_byte : ℕ → Bool
is_reference_byte b = is_within 0x41 0x5A b || (is_within 0x61 0x7A b || (is_within 0x30 0x39 b || b == 0x23))

-- the bytes of a reference at the front, at most so many
abbrev pub reference_body : List ℕ → ℕ → List ℕ
reference_body [] room = []
reference_body (b ∷ bytes) zero = []
reference_body (b ∷ bytes) (suc room) = elim (is_reference_byte b) [ true ↦ b ∷ reference_body bytes room | false ↦ [] ]

-- the number that further digits spell behind a number
abbrev pub digits_behind : ℕ → ℕ → List ℕ → Option ℕ
digits_behind radix n [] = Some n
digits_behind radix n (c ∷ digits) = if is_digit c radix then digits_behind radix (n * radix + digit_value c) digits else None

-- the number that digits spell, of which there is at least one
abbrev pub number_of_digits : ℕ → List ℕ → Option ℕ
number_of_digits radix [] = None
number_of_digits radix (c ∷ digits) = digits_behind radix 0 (c ∷ digits)

-- the character of the number, where it is a Char
abbrev pub if_char : ℕ → Option ℕ
if_char c = if is_char c then Some c else None

-- the predefined entities, section 4.6
abbrev pub entity : List ℕ → Option ℕ
entity name =
    if bytes_eq name (codes "amp") then Some 0x26
    else (if bytes_eq name (codes "lt") then Some 0x3C
    else (if bytes_eq name (codes "gt") then Some 0x3E
    else (if bytes_eq name (codes "quot") then Some 0x22
    else (if bytes_eq name (codes "apos") then Some 0x27
    else None))))

-- the character to which the bytes between `&` and `;` refer
unfoldable pub referred : List ℕ → Option ℕ
referred body =
    if begins_with (codes "#x") body then option_and_then if_char (number_of_digits 16 (drop 2 body))
    else (if begins_with (codes "#") body then option_and_then if_char (number_of_digits 10 (drop 1 body))
    else entity body)

-- a reference of so many bytes
abbrev pub refers : ℕ → Option ℕ → Begun ℕ
refers n None = Broken n
refers n (Some c) = Character c n

-- the greatest number of bytes between `&` and `;`, a limit that the standard has not
abbrev pub greatest_reference : ℕ
greatest_reference = 12

-- The reference that begins with a `&` before these bytes. One that refers to nothing shows it at its `;`, one that has
-- no `;` at the byte in its place.
unfoldable pub reference_at : List ℕ → Begun ℕ
reference_at bytes =
    let body = reference_body bytes greatest_reference in
    let n = length body + 2 in
    elim (drop (length body) bytes) [
      | [] ↦ Unfinished
      | (b ∷ rest) ↦ elim (b == 0x3B) [ true ↦ refers n (referred body) | false ↦ Broken n ]
    ]
