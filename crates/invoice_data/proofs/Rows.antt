-- Small texts on which the definitions are tried. Names of terms have numbers in them, which don't compute here: what is told of whole
-- invoices is tried by running the program.
use Rattle.std.specs.Prelude.{◌≡◌, ℕ, Bool, true, false, List, [], ◌∷◌, map, Some, None, Result, Ok, Err, codes, refl}
use Rattle.json_reading.specs.declared.item.Item.{Item}
use Rattle.json_reading.specs.Numbers.{form_behind}
use Rattle.json_reading.specs.Words.{letter, longer, word_kind}
use Rattle.json_reading.specs.Strings.{in_plain, in_escape, in_hex, in_tail, text_turn}
use Rattle.json_reading.specs.Turns.{plain_begun, value_begun, name_begun, at_value, at_start, at_byte, at_first_item, at_first_member, at_name, at_colon}
use Rattle.json_reading.specs.Turns.{at_comma, behind_inside, at_behind, in_number, lettered, in_word, turn}
use Rattle.json_reading.specs.Reading.{number_ended, act, step, is_behind, reading}
use Rattle.inv_base.specs.Characters.{is_char, is_white_space}
use Rattle.inv_decimal.specs.WrittenNumber.{read_scaled, written_units}
use Rattle.inv_decimal.specs.WrittenDay.{day_from, read_dashed_day}
use Rattle.code_lists.specs.CodeFiles.{built_in_lists}
use Rattle.code_lists.specs.declared.names.List.TheVariants as lists
use Rattle.term_table.specs.declared.contexts.Context.{Context}
use Rattle.term_table.specs.declared.groups.Group.{Group}
use Rattle.term_table.specs.declared.groups.Group.TheVariants as groups
use Rattle.term_table.specs.declared.terms.DataType.{DataType}
use Rattle.term_table.specs.declared.terms.DataType.TheVariants as types
use Rattle.term_table.specs.declared.terms.Mark.TheVariants as marks
use Rattle.term_table.specs.declared.terms.TermRow.{TermRow}
use Rattle.inv_terms.specs.declared.values.Value.{Value}
use Rattle.inv_terms.specs.declared.values.Value.TheVariants as values
use Rattle.inv_terms.specs.Values.{value_of}
use Rattle.invoice_data.specs.declared.faults.DataKind.{DataKind}
use Rattle.invoice_data.specs.declared.faults.DataKind.TheVariants.{NotAnObject, NotAnArray, NotAText, BadValue, CodeNotListed}
use Rattle.invoice_data.specs.declared.faults.DataName.TheVariants as names
use Rattle.invoice_data.specs.declared.members.Numbers.{Numbers}
use Rattle.invoice_data.specs.declared.names.Room.{Room}
use Rattle.invoice_data.specs.Parts.{Part, parts, part}
use Rattle.invoice_data.specs.Names.{Source}
use Rattle.invoice_data.specs.Told.{Told, nothing, both, one_found, one_fault, faulty}
use Rattle.invoice_data.specs.Values.{found, fault_at, refused, said_by_number, text_told, said_told, term_told}
use Rattle.invoice_data.specs.Members.{root_room, mark, room_in, element_told, array_told, no_arrays, inner_arrays, outer_arrays, told}

abbrev items_by : {F : Type 0} → Result (List Item) F → List Item
items_by (Ok items) = items
items_by (Err f) = []

abbrev items_in : List ℕ → List Item
items_in bytes = items_by (reading 100 9 bytes)

abbrev source : List ℕ → Source
source bytes = record { bytes = bytes; added = []; lists = built_in_lists }

-- ---- values beside one another

abbrev starts : List Part → List ℕ
starts ps = map (λ (p : Part). p.item.value.at) ps

beside : starts (parts (items_in (codes "[1,[2,3],{\"a\":[4]},5]"))) ≡ 0 ∷ []
unfolding parts form_behind letter longer word_kind in_plain in_escape in_hex in_tail text_turn plain_begun value_begun name_begun at_value at_start at_byte
    at_first_item at_first_member at_name at_colon at_comma behind_inside at_behind in_number lettered in_word turn number_ended act step is_behind reading
beside = refl

abbrev insides : List Part → List (List ℕ)
insides ps = map (λ (p : Part). starts (parts p.inside)) ps

within : insides (parts (items_in (codes "[1,[2,3],{\"a\":[4]},5]"))) ≡ (1 ∷ 3 ∷ 9 ∷ 19 ∷ []) ∷ []
unfolding parts form_behind letter longer word_kind in_plain in_escape in_hex in_tail text_turn plain_begun value_begun name_begun at_value at_start at_byte
    at_first_item at_first_member at_name at_colon at_comma behind_inside at_behind in_number lettered in_word turn number_ended act step is_behind reading
within = refl

-- ---- values of terms

abbrev row : DataType → TermRow
row data_type = record {
  term = record { number = 8; part = 0 };
  group = groups.Root;
  data_type = data_type;
  mark = marks.Optional;
  list
      = Some lists.Point;
}

abbrev told_of : List ℕ → TermRow → List Item → Told
told_of bytes r [] = nothing
told_of bytes r (i ∷ items) = term_told (source bytes) root_room r i

abbrev said : DataType → List ℕ → Told
said data_type bytes = told_of bytes (row data_type) (items_in bytes)

abbrev no_value : DataKind → DataType → Told
no_value kind data_type = refused kind root_room (row data_type) 0

abbrev of_text : DataType → List ℕ → Told
of_text data_type text = said_told (source []) root_room (row data_type) 0 (Some text)

abbrev value : DataType → Value → Told
value data_type v = one_found (found root_room (row data_type) (Some v))

kinds_said : (said types.T (codes "null") ≡ nothing)
    × (said types.T (codes "true") ≡ no_value NotAText types.T)
    × (said types.T (codes "[\"a\"]") ≡ no_value NotAText types.T)
    × (said types.I (codes "1e0") ≡ no_value BadValue types.I)
    × (said types.I (codes "1E+2") ≡ no_value BadValue types.I)
unfolding form_behind letter longer word_kind in_plain in_escape in_hex in_tail text_turn plain_begun value_begun name_begun at_value at_start at_byte
    at_first_item at_first_member at_name at_colon at_comma behind_inside at_behind in_number lettered in_word turn number_ended act step is_behind reading
    said_by_number text_told said_told term_told
kinds_said = (refl, refl, refl, refl, refl)

values_said : (of_text types.T (codes " ") ≡ nothing)
    × (of_text types.T (codes "ab ") ≡ value types.T (values.Text (codes "ab ")))
    × (of_text types.I (codes " ab ") ≡ value types.I (values.Identifier (codes "ab")))
    × (of_text types.C (codes "35") ≡ value types.C (values.Code (codes "35")))
    × (of_text types.C (codes "5") ≡ no_value CodeNotListed types.C)
    × (of_text types.T (0 ∷ []) ≡ no_value BadValue types.T)
    × (of_text types.D (codes "20240229") ≡ no_value BadValue types.D)
    × (of_text types.D (codes "2024-02-30") ≡ no_value BadValue types.D)
    × (of_text types.A (codes "1,5") ≡ no_value BadValue types.A)
unfolding is_char is_white_space read_scaled written_units day_from read_dashed_day value_of text_told said_told
values_said = (refl, refl, refl, refl, refl, refl, refl, refl, refl)

-- ---- where objects of arrays stand

abbrev at : Group → ℕ → Context
at group index = record { outer = Some (record { group = group; index = index }); inner = None }

abbrev behind : ℕ → ℕ → Numbers
behind before schemed = record { before = before; schemed = schemed }

abbrev sixth : Group → Bool → Room
sixth group schemed = room_in root_room group (behind 5 2) schemed

rooms : (room_in root_room groups.InvoiceLine (behind 1 0) false ≡ record { context = at groups.InvoiceLine 2; place = at groups.InvoiceLine 2 })
    × (sixth groups.SellerSchemedIdentifier true ≡ record { context = at groups.SellerSchemedIdentifier 3; place = at groups.SellerSchemedIdentifier 6 })
    × (sixth groups.SellerSchemedIdentifier false ≡ record { context = at groups.SellerIdentifier 4; place = at groups.SellerSchemedIdentifier 6 })
unfolding room_in
rooms = (refl, refl, refl)

-- ---- arrays, and what stands where an object has to

abbrev array_of : List ℕ → List Item → Told
array_of bytes [] = nothing
array_of bytes (i ∷ items) = array_told no_arrays (source bytes) root_room groups.InvoiceLine (part i items)

abbrev lines_said : List ℕ → Told
lines_said bytes = array_of bytes (items_in bytes)

abbrev no_line : ℕ → ℕ → Told
no_line index at_byte = record {
  founds = [];
  faults = fault_at NotAnObject (room_in root_room groups.InvoiceLine (behind (index) 0) false) names.Nothing at_byte ∷ [];
}

arrays_said : (lines_said (codes "null") ≡ nothing)
    × (lines_said (codes "[]") ≡ nothing)
    × (lines_said (codes "{}")
    ≡ faulty (mark root_room groups.InvoiceLine) (fault_at NotAnArray root_room (names.Array groups.InvoiceLine) 0))
    × (lines_said (codes "[1,null]") ≡ both (one_found (mark root_room groups.InvoiceLine)) (both (no_line 0 1) (no_line 1 3)))
    × (told (source (codes " 1")) (items_in (codes " 1")) ≡ one_fault (fault_at NotAnObject root_room names.Nothing 1))
unfolding form_behind letter longer word_kind in_plain in_escape in_hex in_tail text_turn plain_begun value_begun name_begun at_value at_start at_byte
    at_first_item at_first_member at_name at_colon at_comma behind_inside at_behind in_number lettered in_word turn number_ended act step is_behind reading
    parts both room_in element_told array_told no_arrays inner_arrays outer_arrays told
arrays_said = (refl, refl, refl, refl, refl)
