-- What the value of a term's member tells.
use Rattle.std.specs.Prelude.{ℕ, Bool, true, false, ◌||◌, ◌==◌, List, Option, Some, None, option_map, chars, if◌then◌else◌}
use Rattle.std.specs.List.{list_any}
use Rattle.std.specs.Str.{is_utf8}
use Rattle.json_reading.specs.Texts.{between}
use Rattle.json_reading.specs.declared.item.Item.{Item}
use Rattle.json_reading.specs.declared.item.ItemKind.{ItemKind}
use Rattle.json_reading.specs.declared.item.ItemKind.TheVariants as kinds
use Rattle.json_reading.specs.declared.item.Span.{Span}
use Rattle.term_table.specs.declared.terms.TermRow.{TermRow}
use Rattle.inv_terms.specs.declared.values.Value.{Value}
use Rattle.inv_terms.specs.Values.{value_of, is_blank}
use Rattle.inv_terms.specs.Validity.{is_outside, code_in}
use Rattle.invoice_data.specs.declared.faults.DataFault.{DataFault}
use Rattle.invoice_data.specs.declared.faults.DataKind.{DataKind}
use Rattle.invoice_data.specs.declared.faults.DataKind.TheVariants.{NotAText, BadValue, CodeNotListed}
use Rattle.invoice_data.specs.declared.faults.DataName.{DataName}
use Rattle.invoice_data.specs.declared.faults.DataName.TheVariants as names
use Rattle.invoice_data.specs.declared.names.Room.{Room}
use Rattle.invoice_data.specs.declared.telling.Found.{Found}
use Rattle.invoice_data.specs.Names.{Source, text_at}
use Rattle.invoice_data.specs.Told.{Told, nothing, one_found, faulty}

-- ---- what a string or a number says

-- the characters of a text in UTF-8
abbrev pub characters : List ℕ → Option (List ℕ)
characters text = if is_utf8 text then Some (chars text) else None

-- a string: the characters of its text
abbrev pub said_by_string : List ℕ → Span → Option (List ℕ)
said_by_string bytes span = option_map (λ text. chars text) (text_at bytes span)

abbrev pub is_exponent : ℕ → Bool
is_exponent b = (b == 0x45) || (b == 0x65)

abbrev pub said_by_digits : List ℕ → Option (List ℕ)
said_by_digits spelling = if list_any is_exponent spelling then None else characters spelling

-- a number: how it is spelled, unless it has an exponent
unfoldable pub said_by_number : List ℕ → Span → Option (List ℕ)
said_by_number bytes span = said_by_digits (between span.at span.end bytes)

-- ---- a term

abbrev pub found : Room → TermRow → Option Value → Found
found room row value = record { seat = record { term = row.term; context = room.context }; value = value }

abbrev pub fault_at : DataKind → Room → DataName → ℕ → DataFault
fault_at kind room name at = record { kind = kind; place = room.place; name = name; at = at }

-- a value that is none: its term is found all the same, so that it isn't missing
abbrev pub refused : DataKind → Room → TermRow → ℕ → Told
refused kind room row at = faulty (found room row None) (fault_at kind room (names.Term row.term) at)

abbrev pub value_told : Source → Room → TermRow → ℕ → Option Value → Told
value_told source room row at None = refused BadValue room row at
value_told source room row at (Some value) =
    if is_outside source.lists row.list (code_in value) then refused CodeNotListed room row at else one_found (found room row (Some value))

-- a text, which is blank where the term isn't there
unfoldable pub text_told : Source → Room → TermRow → ℕ → List ℕ → Told
text_told source room row at text =
    if is_blank text then nothing else value_told source room row at (value_of row.data_type text)

unfoldable pub said_told : Source → Room → TermRow → ℕ → Option (List ℕ) → Told
said_told source room row at None = refused BadValue room row at
said_told source room row at (Some text) = text_told source room row at text

abbrev pub term_told_by : Source → Room → TermRow → Span → ItemKind → Told
term_told_by source room row span kinds.Null = nothing
term_told_by source room row span kinds.Text = said_told source room row span.at (said_by_string source.bytes span)
term_told_by source room row span kinds.Number = said_told source room row span.at (said_by_number source.bytes span)
term_told_by source room row span kinds.True = refused NotAText room row span.at
term_told_by source room row span kinds.False = refused NotAText room row span.at
term_told_by source room row span kinds.Object = refused NotAText room row span.at
term_told_by source room row span kinds.Array = refused NotAText room row span.at

-- what an item tells of a term
unfoldable pub term_told : Source → Room → TermRow → Item → Told
term_told source room row item = term_told_by source room row item.value item.kind

-- ---- whether it is there

abbrev pub is_said_blank : Option (List ℕ) → Bool
is_said_blank None = false
is_said_blank (Some text) = is_blank text

abbrev pub says_nothing_by : List ℕ → Span → ItemKind → Bool
says_nothing_by bytes span kinds.Null = true
says_nothing_by bytes span kinds.Text = is_said_blank (said_by_string bytes span)
says_nothing_by bytes span kinds.Number = is_said_blank (said_by_number bytes span)
says_nothing_by bytes span kinds.True = false
says_nothing_by bytes span kinds.False = false
says_nothing_by bytes span kinds.Object = false
says_nothing_by bytes span kinds.Array = false

-- Null and blank strings are as good as no member.
unfoldable pub says_nothing : List ℕ → Item → Bool
says_nothing bytes item = says_nothing_by bytes item.value item.kind
