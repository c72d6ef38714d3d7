-- Strings (RFC 8259, section 7), and the UTF-8 in them by its grammar (RFC 3629, section 4): what each byte does.
use Rattle.std.specs.Prelude.{ℕ, ◌+◌, ◌-◌, Bool, true, false, ◌||◌, ◌==◌, nat_lt, nat_le, List, Option, Some, None, if◌then◌else◌}
use Rattle.std.specs.List.{position_or_len}
use Rattle.json_reading.specs.declared.fault.JsonKind.{JsonKind}
use Rattle.json_reading.specs.declared.fault.JsonKind.TheVariants.{NotJson, NotUtf8}
use Rattle.json_reading.specs.declared.item.ItemKind.TheVariants as kinds
use Rattle.json_reading.specs.declared.item.Span.{Span}
use Rattle.json_reading.specs.declared.mode.Inside.{Inside}
use Rattle.json_reading.specs.declared.mode.Inside.TheVariants.{Plain, Escape, Hex}
use Rattle.json_reading.specs.declared.mode.Inside.TheVariants as inside
use Rattle.json_reading.specs.declared.mode.Role.{Role}
use Rattle.json_reading.specs.declared.mode.Role.TheVariants.{Name, Value}
use Rattle.json_reading.specs.declared.mode.Tail.{Tail}
use Rattle.json_reading.specs.declared.mode.TextMode.{TextMode}
use Rattle.json_reading.specs.declared.mode.Mode.{Mode}
use Rattle.json_reading.specs.declared.mode.Mode.TheVariants.{Text}
use Rattle.json_reading.specs.declared.mode.Turn.{Turn}
use Rattle.json_reading.specs.declared.mode.Turn.TheVariants.{Goes, Stops, Names, Tells}
use Rattle.json_reading.specs.Bytes.{is_hex, is_short}

abbrev pub stops : JsonKind → ℕ → Turn
stops kind at = Stops (record { kind = kind; at = at })

-- the string is the same, and what comes next in it is this
abbrev pub going : TextMode → Inside → Turn
going text inside = Goes (Text (record { start = text.start; escaped = text.escaped; role = text.role; inside = inside }))

abbrev pub escaping : TextMode → Turn
escaping text = Goes (Text (record { start = text.start; escaped = true; role = text.role; inside = Escape }))

abbrev pub told_by : Role → Span → Turn
told_by Name span = Names span
told_by Value span = Tells kinds.Text span

-- the byte at the place is the quote at the end
abbrev pub ending : ℕ → TextMode → Turn
ending at text = told_by text.role (record { at = text.start; end = at + 1; escaped = text.escaped })

abbrev pub tail : ℕ → ℕ → ℕ → ℕ → Option Tail
tail at left low high = Some (record { at = at; left = left; low = low; high = high })

-- What has to come behind the first byte of a character that isn't ASCII: how many bytes, and between which bounds the first of
-- them is. The others are from 80 to BF.
abbrev pub short_tail : ℕ → ℕ → Option Tail
short_tail at b =
    if nat_lt b 0xC2 then None
    else (if nat_lt b 0xE0 then tail at 1 0x80 0xBF
    else (if b == 0xE0 then tail at 2 0xA0 0xBF
    else (if b == 0xED then tail at 2 0x80 0x9F
    else tail at 2 0x80 0xBF)))

abbrev pub long_tail : ℕ → ℕ → Option Tail
long_tail at b =
    if b == 0xF0 then tail at 3 0x90 0xBF
    else (if nat_lt b 0xF4 then tail at 3 0x80 0xBF
    else (if b == 0xF4 then tail at 3 0x80 0x8F
    else None))

abbrev pub tail_of : ℕ → ℕ → Option Tail
tail_of at b = if nat_lt b 0xF0 then short_tail at b else long_tail at b

abbrev pub wide_by : ℕ → TextMode → Option Tail → Turn
wide_by at text (Some tail) = going text (inside.Tail tail)
wide_by at text None = stops NotUtf8 at

-- a byte that isn't ASCII, where a character comes next
abbrev pub wide : ℕ → ℕ → TextMode → Turn
wide at b text = wide_by at text (tail_of at b)

-- where a character, an escape or the quote at the end comes next
unfoldable pub in_plain : ℕ → ℕ → TextMode → Turn
in_plain at b text =
    if b == 0x22 then ending at text
    else (if b == 0x5C then escaping text
    else (if nat_lt b 0x20 then stops NotJson at
    else (if nat_lt 0x7F b then wide at b text
    else going text Plain)))

-- behind a backslash
unfoldable pub in_escape : ℕ → ℕ → TextMode → Turn
in_escape at b text =
    if is_short b then going text Plain
    else (if b == 0x75 then going text (Hex 4)
    else stops NotJson at)

-- where so many digits have to come
unfoldable pub in_hex : ℕ → ℕ → TextMode → ℕ → Turn
in_hex at b text left =
    if is_hex b then (if nat_le left 1 then going text Plain else going text (Hex (left - 1)))
    else stops NotJson at

-- in a character; what isn't one is told where it begins
unfoldable pub in_tail : ℕ → TextMode → Tail → Turn
in_tail b text tail =
    if nat_lt b tail.low || nat_lt tail.high b then stops NotUtf8 tail.at
    else (if nat_le tail.left 1 then going text Plain
    else going text (inside.Tail (record { at = tail.at; left = tail.left - 1; low = 0x80; high = 0xBF })))

abbrev pub text_turn_by : ℕ → ℕ → TextMode → Inside → Turn
text_turn_by at b text Plain = in_plain at b text
text_turn_by at b text Escape = in_escape at b text
text_turn_by at b text (Hex left) = in_hex at b text left
text_turn_by at b text (inside.Tail tail) = in_tail b text tail

-- what a byte in a string does
unfoldable pub text_turn : ℕ → ℕ → TextMode → Turn
text_turn at b text = text_turn_by at b text text.inside

-- ---- bytes that leave everything as it is

-- a byte that doesn't stand for itself as it is in a string
abbrev pub ends_plain : ℕ → Bool
ends_plain b = nat_lt b 0x20 || (nat_lt 0x7F b || (b == 0x22 || b == 0x5C))

abbrev pub is_plain_inside : Inside → Bool
is_plain_inside Plain = true
is_plain_inside Escape = false
is_plain_inside (Hex left) = false
is_plain_inside (inside.Tail tail) = false

abbrev pub plain_len : Inside → List ℕ → ℕ
plain_len inside bytes = if is_plain_inside inside then position_or_len ends_plain bytes else 0

-- how many bytes at the front of others can be passed over
unfoldable pub idle_len : Mode → List ℕ → ℕ
idle_len (Text text) bytes = plain_len text.inside bytes
idle_len _ bytes = 0
