-- What a row of a table writes of an invoice in a context: nothing, or a string.
use Rattle.std.specs.Prelude.{ℕ, nat_le, Bool, true, false, not, ◌&&◌, ◌||◌, List, [], ◌∷◌, ◌++◌, length, Option, Some, None, is_some, is_none, option_and_then}
use Rattle.std.specs.List.{list_all}
use Rattle.std.specs.Str.{bytes_eq}
use Rattle.inv_base.specs.Characters.{is_within}
use Rattle.inv_decimal.specs.WrittenNumber.{scaled_text}
use Rattle.inv_decimal.specs.WrittenDay.{plain_day_text}
use Rattle.term_table.specs.declared.groups.Group.{Group}
use Rattle.term_table.specs.declared.terms.DataType.{DataType}
use Rattle.term_table.specs.declared.terms.DataType.TheVariants as data_types
use Rattle.term_table.specs.declared.terms.Term.{Term}
use Rattle.inv_terms.specs.declared.values.Value.{Value}
use Rattle.inv_terms.specs.declared.values.Value.TheVariants as values
use Rattle.term_table.specs.declared.contexts.Slot.{Slot}
use Rattle.term_table.specs.declared.contexts.Context.{Context}
use Rattle.inv_terms.specs.declared.entries.Entry.{Entry}
use Rattle.inv_terms.specs.Values.{spelled}
use Rattle.inv_terms.specs.Listing.{value_in}
use Rattle.bind_rows.specs.declared.rows.Row.{Row}
use Rattle.bind_rows.specs.declared.rows.Form.{Form}
use Rattle.bind_rows.specs.declared.rows.Form.TheVariants as forms
use Rattle.bind_rows.specs.declared.rows.Content.TheVariants as contents
use Rattle.bind_rows.specs.declared.rows.Written.{Written}
use Rattle.bind_rows.specs.declared.rows.Written.TheVariants as written
use Rattle.bind_rows.specs.Added.{is_typed, data_type_of_form}
use Rattle.bind_meaning.specs.Values.{Image, images, subject_code, form_for}

-- the slot, where rows of this context have one
abbrev pub slot_for : Option Group → Option Slot → Option Slot
slot_for None slot = None
slot_for (Some group) slot = slot

-- the context of a row inside the elements of a context: that of a row which is spread over them lies further out
abbrev pub context_for : Row → Context → Context
context_for row c = record { outer = slot_for row.outer c.outer; inner = slot_for row.inner c.inner }

-- ---- how a value is written

abbrev pub written_among : List Image → List ℕ → List ℕ
written_among [] code = code
written_among (image ∷ images) code = elim (bytes_eq image.code code) [ true ↦ image.written | false ↦ written_among images code ]

abbrev pub plain_date : Value → List ℕ
plain_date (values.Date day) = plain_day_text day
plain_date (values.Text text) = text
plain_date (values.Identifier text) = text
plain_date (values.Code text) = text
plain_date (values.Amount number) = scaled_text number
plain_date (values.Quantity number) = scaled_text number
plain_date (values.Percent number) = scaled_text number
plain_date (values.Base64 text) = text

-- a note behind its subject code, if it has one
abbrev pub coded_note : Option Value → List ℕ → List ℕ
coded_note None text = text
coded_note (Some code) text = 35 ∷ (spelled code ++ (35 ∷ text))

abbrev pub formed : Form → List Entry → Context → Value → List ℕ
formed forms.Model es c value = spelled value
formed forms.PlainDate es c value = plain_date value
formed forms.DueDateTypeCode es c value = written_among images (spelled value)
formed forms.CodedNote es c value = coded_note (value_in es subject_code c) (spelled value)
formed (forms.Typed data_type) es c value = spelled value
formed forms.TypedPlainDate es c value = plain_date value

-- ---- when it is written

abbrev pub is_upper : ℕ → Bool
is_upper c = is_within 65 90 c

abbrev pub is_digit : ℕ → Bool
is_digit c = is_within 48 57 c

-- an IBAN by its form (ISO 13616): two letters, two digits, then 11 to 30 letters and digits
abbrev pub is_iban : List ℕ → Bool
is_iban (a ∷ (b ∷ (c ∷ (d ∷ rest)))) =
    (is_upper a && is_upper b) && ((is_digit c && is_digit d) &&
    (list_all (λ e. is_upper e || is_digit e) rest && (nat_le 11 (length rest) && nat_le (length rest) 30)))
is_iban _ = false

abbrev pub scheme_of : Term → Term
scheme_of term = record term { part = 1 }

abbrev pub if_so : Bool → List ℕ → Option (List ℕ)
if_so true text = Some text
if_so false text = None

abbrev pub if_due : Written → List Entry → Term → Context → List ℕ → Option (List ℕ)
if_due written.Always es term c text = Some text
if_due written.Never es term c text = None
if_due written.IfIban es term c text = if_so (is_iban text) text
if_due written.IfNotIban es term c text = if_so (not (is_iban text)) text
if_due written.IfScheme es term c text = if_so (is_some (value_in es (scheme_of term) c)) text
if_due written.IfNoScheme es term c text = if_so (is_none (value_in es (scheme_of term) c)) text
if_due (written.OrPlaceholder placeholder) es term c text = Some text
if_due written.VatTotal es term c text = Some text
if_due written.AccountingVatTotal es term c text = Some text

-- the placeholder, where the term beside it stands
abbrev pub filled : Written → List Entry → Context → Option (List ℕ)
filled (written.OrPlaceholder placeholder) es c = if_so (is_some (value_in es placeholder.beside c)) placeholder.text
filled _ es c = None

-- The context has an occurrence of each group of the row's.
abbrev pub has_slots : Row → Context → Bool
has_slots row c = (is_none row.outer || is_some c.outer) && (is_none row.inner || is_some c.inner)

abbrev pub is_of_type : DataType → Value → Bool
is_of_type data_types.T (values.Text text) = true
is_of_type data_types.I (values.Identifier text) = true
is_of_type data_types.C (values.Code text) = true
is_of_type data_types.A (values.Amount number) = true
is_of_type data_types.Q (values.Quantity number) = true
is_of_type data_types.P (values.Percent number) = true
is_of_type data_types.D (values.Date day) = true
is_of_type data_types.B (values.Base64 text) = true
is_of_type _ _ = false

-- the value, where it has this type
abbrev pub of_type : DataType → Value → Option Value
of_type data_type value = elim (is_of_type data_type value) [ true ↦ Some value | false ↦ None ]

abbrev pub of_form : Form → Value → Option Value
of_form form value = elim (data_type_of_form form) [ None ↦ Some value | Some data_type ↦ of_type data_type value ]

-- the value that the row writes: an added row writes none in a context without its groups, nor one of another type
abbrev pub value_for : Row → List Entry → Term → Context → Option Value
value_for row es term c = elim (is_typed (form_for row.form term)) [
  | true ↦ elim (has_slots row c) [ true ↦ option_and_then (of_form (form_for row.form term)) (value_in es term c) | false ↦ None ]
  | false ↦ value_in es term c
]

abbrev pub term_text : Row → List Entry → Term → Context → Option (List ℕ)
term_text row es term c = elim (value_for row es term c) [
  | None ↦ filled row.written es c
  | Some value ↦ if_due row.written es term c (formed (form_for row.form term) es c value)
]

-- what a row with a term writes in a context
abbrev pub row_text : Row → List Entry → Context → Option (List ℕ)
row_text row es c = elim row.content [ (contents.Term term) ↦ term_text row es term (context_for row c) | (contents.Constant text) ↦ None ]

-- The row writes what the invoice gives it: its term's value, or its placeholder where the term beside it stands.
abbrev pub writes_entry : Row → List Entry → Context → Bool
writes_entry row es c = is_some (row_text row es c)
