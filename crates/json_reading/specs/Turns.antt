-- What each byte of a JSON text does (RFC 8259, sections 2 to 7), by what comes next there.
use Rattle.std.specs.Prelude.{ℕ, ◌+◌, Bool, true, false, ◌==◌, Option, Some, None, if◌then◌else◌}
use Rattle.json_reading.specs.declared.fault.JsonKind.{JsonKind}
use Rattle.json_reading.specs.declared.fault.JsonKind.TheVariants.{NotJson}
use Rattle.json_reading.specs.declared.item.Container.{Container}
use Rattle.json_reading.specs.declared.item.Container.TheVariants as container
use Rattle.json_reading.specs.declared.mode.Form.{Form}
use Rattle.json_reading.specs.declared.mode.Inside.TheVariants.{Plain}
use Rattle.json_reading.specs.declared.mode.Letters.{Letters}
use Rattle.json_reading.specs.declared.mode.Mode.{Mode}
use Rattle.json_reading.specs.declared.mode.Mode.TheVariants as mode
use Rattle.json_reading.specs.declared.mode.NumberMode.{NumberMode}
use Rattle.json_reading.specs.declared.mode.Role.{Role}
use Rattle.json_reading.specs.declared.mode.Role.TheVariants as role
use Rattle.json_reading.specs.declared.mode.Turn.{Turn}
use Rattle.json_reading.specs.declared.mode.Turn.TheVariants.{Goes, Stops, Names, Tells, Begins, Closes}
use Rattle.json_reading.specs.declared.mode.WordMode.{WordMode}
use Rattle.json_reading.specs.Bytes.{is_space}
use Rattle.json_reading.specs.Numbers.{form_begun, form_behind}
use Rattle.json_reading.specs.Strings.{stops, text_turn}
use Rattle.json_reading.specs.Words.{word_begun, letter, longer, word_kind}

-- a string begins
abbrev pub quoted : ℕ → Role → Turn
quoted at role = Goes (mode.Text (record { start = at; escaped = false; role = role; inside = Plain }))

abbrev pub word_begun_by : ℕ → Option Letters → Turn
word_begun_by at (Some letters) = Goes (mode.Word (record { start = at; letters = letters }))
word_begun_by at None = stops NotJson at

abbrev pub plain_begun_by : ℕ → ℕ → Option Form → Turn
plain_begun_by at b (Some form) = Goes (mode.Number (record { start = at; form = form }))
plain_begun_by at b None = word_begun_by at (word_begun b)

-- a number or word begins, or no value
unfoldable pub plain_begun : ℕ → ℕ → Turn
plain_begun at b = plain_begun_by at b (form_begun b)

-- a value begins
unfoldable pub value_begun : ℕ → ℕ → Turn
value_begun at b =
    if b == 0x22 then quoted at role.Value
    else (if b == 0x7B then Begins container.Object
    else (if b == 0x5B then Begins container.Array
    else plain_begun at b))

-- a name begins
unfoldable pub name_begun : ℕ → ℕ → Turn
name_begun at b = if b == 0x22 then quoted at role.Name else stops NotJson at

unfoldable pub at_value : ℕ → ℕ → Turn
at_value at b = if is_space b then Goes mode.Value else value_begun at b

-- a byte order mark may stand in front, and nowhere else
unfoldable pub at_start : ℕ → ℕ → Turn
at_start at b = if b == 0xEF then Goes mode.SecondOfMark else at_value at b

-- exactly this byte has to come
unfoldable pub at_byte : ℕ → ℕ → ℕ → Mode → Turn
at_byte at b wanted mode = if b == wanted then Goes mode else stops NotJson at

unfoldable pub at_first_item : ℕ → ℕ → Turn
at_first_item at b = if is_space b then Goes mode.FirstItem else (if b == 0x5D then Closes else value_begun at b)

unfoldable pub at_first_member : ℕ → ℕ → Turn
at_first_member at b = if is_space b then Goes mode.FirstMember else (if b == 0x7D then Closes else name_begun at b)

unfoldable pub at_name : ℕ → ℕ → Turn
at_name at b = if is_space b then Goes mode.Name else name_begun at b

unfoldable pub at_colon : ℕ → ℕ → Turn
at_colon at b = if is_space b then Goes mode.Colon else at_byte at b 0x3A mode.Value

-- behind a value the comma leads on, and the bracket ends what is open
unfoldable pub at_comma : ℕ → ℕ → ℕ → Mode → Turn
at_comma at b bracket mode = if b == 0x2C then Goes mode else (if b == bracket then Closes else stops NotJson at)

-- behind a value inside what is innermost; at the top nothing may stand there
unfoldable pub behind_inside : ℕ → ℕ → Option Container → Turn
behind_inside at b (Some container.Object) = at_comma at b 0x7D mode.Name
behind_inside at b (Some container.Array) = at_comma at b 0x5D mode.Value
behind_inside at b None = stops NotJson at

unfoldable pub at_behind : ℕ → ℕ → Option Container → Turn
at_behind at b innermost = if is_space b then Goes mode.Behind else behind_inside at b innermost

abbrev pub in_number_by : ℕ → NumberMode → Option Form → Turn
in_number_by at number (Some form) = Goes (mode.Number (record { start = number.start; form = form }))
in_number_by at number None = stops NotJson at

unfoldable pub in_number : ℕ → ℕ → NumberMode → Turn
in_number at b number = in_number_by at number (form_behind number.form b)

abbrev pub lettered_by : ℕ → WordMode → Option Letters → Turn
lettered_by at word (Some letters) = Goes (mode.Word (record { start = word.start; letters = letters }))
lettered_by at word None = Tells (word_kind word.letters) (record { at = word.start; end = at + 1; escaped = false })

-- the letter is the right one
unfoldable pub lettered : ℕ → WordMode → Turn
lettered at word = lettered_by at word (longer word.letters)

unfoldable pub in_word : ℕ → ℕ → WordMode → Turn
in_word at b word = if b == letter word.letters then lettered at word else stops NotJson at

-- What a byte at a place does, by what comes next there and what the innermost open value is, where a number that the byte doesn't
-- belong to has ended.
unfoldable pub turn : ℕ → ℕ → Mode → Option Container → Turn
turn at b mode.Start innermost = at_start at b
turn at b mode.SecondOfMark innermost = at_byte at b 0xBB mode.ThirdOfMark
turn at b mode.ThirdOfMark innermost = at_byte at b 0xBF mode.Value
turn at b mode.Value innermost = at_value at b
turn at b mode.FirstItem innermost = at_first_item at b
turn at b mode.FirstMember innermost = at_first_member at b
turn at b mode.Name innermost = at_name at b
turn at b mode.Colon innermost = at_colon at b
turn at b mode.Behind innermost = at_behind at b innermost
turn at b (mode.Text text) innermost = text_turn at b text
turn at b (mode.Number number) innermost = in_number at b number
turn at b (mode.Word word) innermost = in_word at b word
