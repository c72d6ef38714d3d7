-- The text that a string spells (RFC 8259, section 7), byte by byte: escapes are what they stand for, all else is itself. The units
-- of UTF-16 that escapes are stand by themselves or in surrogate pairs.
use Rattle.std.specs.Prelude.{◌≡◌, ℕ, ◌+◌, ◌-◌, ◌*◌, Bool, true, false, ◌&&◌, ◌==◌, nat_lt, nat_le, List, [], ◌∷◌, ◌++◌, take, drop, Option, Some, None}
use Rattle.std.specs.Prelude.{option_map, encode_utf8, if◌then◌else◌}
use lib.Utf8.{scalar}
use Rattle.std.specs.Str.{IsUtf8}
use Rattle.json_reading.specs.declared.texts.Digits.{Digits}
use Rattle.json_reading.specs.declared.texts.Digits.TheVariants as digits
use Rattle.json_reading.specs.declared.texts.Pending.{Pending}
use Rattle.json_reading.specs.declared.texts.Said.{Said}
use Rattle.json_reading.specs.declared.texts.Said.TheVariants.{Goes, Byte, Character, Nothing}
use Rattle.json_reading.specs.Bytes.{is_digit}

-- what the letter behind a backslash stands for
abbrev pub short : ℕ → ℕ
short b =
    if b == 0x62 then 0x8
    else (if b == 0x66 then 0xC
    else (if b == 0x6E then 0xA
    else (if b == 0x72 then 0xD
    else (if b == 0x74 then 0x9
    else b))))

-- of digits to the base 16; of other bytes it isn't asked
abbrev pub digit_value : ℕ → ℕ
digit_value b = if is_digit b then b - 0x30 else (if nat_lt b 0x61 then b - 0x37 else b - 0x57)

abbrev pub unit : ℕ → ℕ → ℕ → ℕ → ℕ
unit a b c d = digit_value a * 4096 + digit_value b * 256 + digit_value c * 16 + digit_value d

-- what is no character says nothing
unfoldable pub character : ℕ → Said
character code = if scalar code then Character code else Nothing

abbrev pub going : Option ℕ → Digits → Said
going high digits = Goes (record { high = high; digits = digits })

abbrev pub first_unit : ℕ → Said
first_unit u = if nat_le 0xD800 u && nat_lt u 0xDC00 then going (Some u) digits.Outside else character u

abbrev pub second_unit : ℕ → ℕ → Said
second_unit high u =
    if nat_le 0xDC00 u && nat_lt u 0xE000 then character (0x10000 + (high - 0xD800) * 1024 + (u - 0xDC00)) else Nothing

abbrev pub unit_read : Option ℕ → ℕ → Said
unit_read None u = first_unit u
unit_read (Some high) u = second_unit high u

-- behind the first half of a pair stands nothing but the second
abbrev pub byte_read : Option ℕ → ℕ → Said
byte_read None b = Byte b
byte_read (Some high) b = Nothing

abbrev pub outside : Option ℕ → ℕ → Said
outside high b = if b == 0x5C then going high digits.Backslash else byte_read high b

abbrev pub behind_backslash : Option ℕ → ℕ → Said
behind_backslash high b = if b == 0x75 then going high digits.None else byte_read high (short b)

abbrev pub said_by : Option ℕ → Digits → ℕ → Said
said_by high digits.Outside byte = outside high byte
said_by high digits.Backslash byte = behind_backslash high byte
said_by high digits.None byte = going high (digits.One byte)
said_by high (digits.One a) byte = going high (digits.Two a byte)
said_by high (digits.Two a b) byte = going high (digits.Three a b byte)
said_by high (digits.Three a b c) byte = unit_read high (unit a b c byte)

-- what a byte says behind what is pending
unfoldable pub saying : Pending → ℕ → Said
saying pending byte = said_by pending.high pending.digits byte

abbrev pub nothing_pending : Pending
nothing_pending = record { high = None; digits = digits.Outside }

abbrev pub is_outside : Digits → Bool
is_outside digits.Outside = true
is_outside digits.Backslash = false
is_outside digits.None = false
is_outside (digits.One a) = false
is_outside (digits.Two a b) = false
is_outside (digits.Three a b c) = false

abbrev pub is_over_by : Option ℕ → Digits → Bool
is_over_by (Some high) digits = false
is_over_by None digits = is_outside digits

-- whether a string may end here
abbrev pub is_over : Pending → Bool
is_over pending = is_over_by pending.high pending.digits

abbrev pub behind : List ℕ → Option (List ℕ) → Option (List ℕ)
behind front text = option_map (λ more. front ++ more) text

-- the text of bytes behind what is pending; none where half a surrogate pair stands by itself
abbrev pub text_behind : Pending → List ℕ → Option (List ℕ)
text_behind pending [] = if is_over pending then Some [] else None
text_behind pending (b ∷ bytes) = elim (saying pending b) [
  | (Goes next) ↦ text_behind next bytes
  | (Byte c) ↦ behind (c ∷ []) (text_behind nothing_pending bytes)
  | (Character c) ↦ behind (encode_utf8 c) (text_behind nothing_pending bytes)
  | Nothing ↦ None
]

-- the text, in UTF-8, that the bytes between the quotes of a string spell
abbrev pub text_of : List ℕ → Option (List ℕ)
text_of bytes = text_behind nothing_pending bytes

abbrev pub with_character : List ℕ → ℕ → List ℕ
with_character text c = text ++ encode_utf8 c

-- what the text becomes
abbrev pub IsPut : Said → List ℕ → List ℕ → Option Pending → Type 0
IsPut (Goes pending) before after next = (after ≡ before) × (next ≡ Some pending)
IsPut (Byte c) before after next = (after ≡ before ++ c ∷ []) × (next ≡ Some nothing_pending)
IsPut (Character c) before after next = (after ≡ before ++ encode_utf8 c) × (next ≡ Some nothing_pending)
IsPut Nothing before after next = next ≡ None

-- The text of the bytes, if they have one, came behind.
abbrev pub IsTextPut : List ℕ → List ℕ → List ℕ → Bool → Type 0
IsTextPut bytes before after true = behind before (text_of bytes) ≡ Some after
IsTextPut bytes before after false = text_of bytes ≡ None

-- The bytes are a text, or aren't UTF-8.
abbrev pub IsChecked : List ℕ → Option (List ℕ) → Type 0
IsChecked bytes (Some text) = text ≡ bytes
IsChecked bytes None = ¬ (IsUtf8 bytes)

-- The text that the bytes between quotes spell, as far as they are UTF-8: those of a text that was read are.
abbrev pub IsText : List ℕ → Option (List ℕ) → Type 0
IsText bytes (Some text) = text_of bytes ≡ Some text
IsText bytes None = (text : List ℕ) → text_of bytes ≡ Some text → ¬ (IsUtf8 text)

-- the bytes from a place to another
abbrev pub between : ℕ → ℕ → List ℕ → List ℕ
between at end bytes = take (end - at) (drop at bytes)
