-- Small texts on which the definitions are tried: their items, or their first fault.
use Rattle.std.specs.Prelude.{◌≡◌, ℕ, true, false, List, [], ◌∷◌, ◌++◌, Option, Some, None, Result, Ok, Err, codes, refl}
use Rattle.json_reading.specs.declared.fault.JsonFault.{JsonFault}
use Rattle.json_reading.specs.declared.fault.JsonKind.{JsonKind}
use Rattle.json_reading.specs.declared.fault.JsonKind.TheVariants.{NotJson, NotUtf8, TooDeep, Truncated, TooLong}
use Rattle.json_reading.specs.declared.item.Item.{Item}
use Rattle.json_reading.specs.declared.item.ItemKind.TheVariants.{Object, Array, Text, Number, True, False, Null}
use Rattle.json_reading.specs.declared.item.ItemKind.{ItemKind}
use Rattle.json_reading.specs.declared.item.Span.{Span}
use Rattle.json_reading.specs.Numbers.{form_behind}
use Rattle.json_reading.specs.Words.{letter, longer, word_kind}
use Rattle.json_reading.specs.Strings.{in_plain, in_escape, in_hex, in_tail, text_turn}
use Rattle.json_reading.specs.Turns.{plain_begun, value_begun, name_begun, at_value, at_start, at_byte, at_first_item, at_first_member, at_name, at_colon}
use Rattle.json_reading.specs.Turns.{at_comma, behind_inside, at_behind, in_number, lettered, in_word, turn}
use Rattle.json_reading.specs.Reading.{fault, number_ended, act, step, is_behind, reading}

-- at most 40 bytes, and three objects and arrays inside one another
abbrev said : List ℕ → Result (List Item) JsonFault
said bytes = reading 40 3 bytes

abbrev plain : ℕ → ℕ → Span
plain at end = record { at = at; end = end; escaped = false }

abbrev escaped : ℕ → ℕ → Span
escaped at end = record { at = at; end = end; escaped = true }

abbrev item : ItemKind → Span → Item
item kind value = record { kind = kind; name = None; value = value; inside = 0 }

abbrev member : Span → ItemKind → Span → Item
member name kind value = record { kind = kind; name = Some name; value = value; inside = 0 }

abbrev around : ℕ → Item → Item
around inside i = record { kind = i.kind; name = i.name; value = i.value; inside = inside }

abbrev refused : ℕ → JsonKind → List ℕ → Type 0
refused at kind bytes = said bytes ≡ Err (fault kind at)

abbrev accepted : List Item → List ℕ → Type 0
accepted items bytes = said bytes ≡ Ok items

-- values without values inside
scalars : (accepted (item Number (plain 0 1) ∷ []) (codes "1"))
    × (accepted (item Number (plain 1 9) ∷ []) (codes " -0.50E+2 "))
    × (accepted (item True (plain 0 4) ∷ []) (codes "true"))
    × (accepted (item False (plain 1 6) ∷ []) (codes " false"))
    × (accepted (item Null (plain 0 4) ∷ []) (codes "null "))
    × (accepted (item Text (plain 0 2) ∷ []) (codes "\"\""))
    × (accepted (item Text (plain 0 4) ∷ []) (codes "\"ab\""))
    × (accepted (item Text (escaped 0 10) ∷ []) (codes "\"\\n\\ud800\""))
    × (accepted (item Text (plain 0 4) ∷ []) (0x22 ∷ 0xC3 ∷ 0xA9 ∷ 0x22 ∷ []))
    × (accepted (item Text (plain 0 9) ∷ []) (0x22 ∷ 0xE2 ∷ 0x82 ∷ 0xAC ∷ 0xF0 ∷ 0x9F ∷ 0x98 ∷ 0x80 ∷ 0x22 ∷ []))
    × (accepted (item Number (plain 3 4) ∷ []) (0xEF ∷ 0xBB ∷ 0xBF ∷ 0x31 ∷ []))
unfolding form_behind letter longer word_kind in_plain in_escape in_hex in_tail text_turn plain_begun value_begun name_begun at_value at_start at_byte
    at_first_item at_first_member at_name at_colon at_comma behind_inside at_behind in_number lettered in_word turn number_ended act step is_behind reading
scalars = (refl, refl, refl, refl, refl, refl, refl, refl, refl, refl, refl)

-- objects and arrays, with how many items stand inside
nested : (accepted (item Array (plain 0 2) ∷ []) (codes "[]"))
    × (accepted (item Object (plain 0 3) ∷ []) (codes "{ }"))
    × (accepted (around 2 (item Array (plain 0 5)) ∷ item Number (plain 1 2) ∷ item Number (plain 3 4) ∷ []) (codes "[1,2]"))
    × (accepted (around 4 (item Array (plain 0 11)) ∷ around 1 (item Array (plain 1 4)) ∷ item Number (plain 2 3) ∷ around 1 (item Array (plain 6 9)) ∷ item
    Number (plain 7 8) ∷ []) (codes "[[1], [2] ] "))
    × (accepted (around 2 (item Object (plain 0 16)) ∷ member (plain 1 4) Number (plain 5 6) ∷ member (plain 7 10) Null (plain 11 15) ∷ []) (codes
    "{\"a\":1,\"b\":null}"))
unfolding form_behind letter longer word_kind in_plain in_escape in_hex in_tail text_turn plain_begun value_begun name_begun at_value at_start at_byte
    at_first_item at_first_member at_name at_colon at_comma behind_inside at_behind in_number lettered in_word turn number_ended act step is_behind reading
nested = (refl, refl, refl, refl, refl)

-- the first byte that can't stand where it stands
refused_texts : (refused 3 NotJson (codes "[1,]"))
    × (refused 1 NotJson (codes "01"))
    × (refused 0 NotJson (codes "'a'"))
    × (refused 2 NotJson (codes "1 // a"))
    × (refused 2 NotJson (0x22 ∷ 0x61 ∷ 0xA ∷ 0x22 ∷ []))
    × (refused 2 NotJson (codes "\"\\x\""))
    × (refused 0 NotJson (codes "<Invoice"))
    × (refused 2 NotJson (codes "1 2"))
    × (refused 1 NotJson (codes "-x"))
    × (refused 2 NotJson (codes "1.x"))
    × (refused 2 NotJson (codes "1e,"))
    × (refused 3 NotJson (codes "1e+]"))
    × (refused 4 NotJson (codes "true1"))
    × (refused 3 NotJson (codes "tru1"))
    × (refused 1 NotJson (codes "[}"))
    × (refused 1 NotJson (codes "{]"))
    × (refused 1 NotJson (codes "{1"))
    × (refused 4 NotJson (codes "{\"a\","))
    × (refused 5 NotJson (codes "{\"a\":}"))
    × (refused 7 NotJson (codes "{\"a\":1,}"))
    × (refused 5 NotJson (codes "\"\\u00g0\""))
    × (refused 0 NotJson (0xC3 ∷ 0xA9 ∷ []))
    × (refused 1 NotJson (0xEF ∷ 0x31 ∷ []))
    × (refused 2 NotJson (0xEF ∷ 0xBB ∷ 0x31 ∷ []))
    × (refused 1 NotJson (0x20 ∷ 0xEF ∷ 0xBB ∷ 0xBF ∷ 0x31 ∷ []))
    × (refused 1 NotJson (codes "1}"))
    × (refused 2 NotJson (codes "[1}"))
unfolding form_behind letter longer word_kind in_plain in_escape in_hex in_tail text_turn plain_begun value_begun name_begun at_value at_start at_byte
    at_first_item at_first_member at_name at_colon at_comma behind_inside at_behind in_number lettered in_word turn number_ended act step is_behind reading
refused_texts = (
  refl,
  refl,
  refl,
  refl,
  refl,
  refl,
  refl,
  refl,
  refl,
  refl,
  refl,
  refl,
  refl,
  refl,
  refl,
  refl,
  refl,
  refl,
  refl,
  refl,
  refl,
  refl,
  refl,
  refl,
  refl,
  refl,
  refl,
)

-- the other kinds
other_refusals : (refused 1 NotUtf8 (0x22 ∷ 0xC0 ∷ 0x80 ∷ 0x22 ∷ []))
    × (refused 1 NotUtf8 (0x22 ∷ 0xED ∷ 0xA0 ∷ 0x80 ∷ 0x22 ∷ []))
    × (refused 2 NotUtf8 (0x22 ∷ 0x61 ∷ 0xE2 ∷ 0x82 ∷ 0x22 ∷ []))
    × (refused 1 NotUtf8 (0x22 ∷ 0xF4 ∷ 0x90 ∷ 0x80 ∷ 0x80 ∷ 0x22 ∷ []))
    × (refused 1 NotUtf8 (0x22 ∷ 0xFF ∷ []))
    × (refused 1 NotUtf8 (0x22 ∷ 0x80 ∷ []))
    × (refused 3 TooDeep (codes "[[[["))
    × (refused 14 TooDeep (codes "{\"a\":{\"a\":[1, {"))
    × (refused 0 Truncated (codes ""))
    × (refused 0 Truncated [])
    × (refused 1 Truncated (codes " "))
    × (refused 1 Truncated (codes "["))
    × (refused 2 Truncated (codes "[1"))
    × (refused 1 Truncated (codes "-"))
    × (refused 2 Truncated (codes "1."))
    × (refused 2 Truncated (codes "\"a"))
    × (refused 2 Truncated (0x22 ∷ 0xC3 ∷ []))
    × (refused 2 Truncated (0xEF ∷ 0xBB ∷ []))
    × (refused 3 Truncated (codes "tru"))
    × (refused 5 Truncated (codes "{\"a\":"))
    × (refused 40 TooLong (codes "1                                        "))
    × (refused 39 NotJson (codes "1                                      x         "))
unfolding form_behind letter longer word_kind in_plain in_escape in_hex in_tail text_turn plain_begun value_begun name_begun at_value at_start at_byte
    at_first_item at_first_member at_name at_colon at_comma behind_inside at_behind in_number lettered in_word turn number_ended act step is_behind reading
other_refusals = (refl, refl, refl, refl, refl, refl, refl, refl, refl, refl, refl, refl, refl, refl, refl, refl, refl, refl, refl, refl, refl, refl)
