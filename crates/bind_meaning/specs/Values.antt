-- What the string of a picked node says: the value of the row's term, by the row's form.
use Rattle.std.specs.Prelude.{ℕ, ◌==◌, Bool, true, false, not, ◌&&◌, ◌||◌, List, [], ◌∷◌, codes, Option, Some, None, option_map, option_and_then}
use Rattle.std.specs.List.{list_all}
use Rattle.std.specs.Str.{bytes_eq}
use Rattle.inv_base.specs.Characters.{is_char, is_within}
use Rattle.inv_decimal.specs.WrittenDay.{read_plain_day}
use Rattle.term_table.specs.declared.terms.Term.{Term}
use Rattle.inv_terms.specs.declared.values.Value.{Value}
use Rattle.inv_terms.specs.declared.values.Value.TheVariants as values
use Rattle.inv_terms.specs.Values.{is_blank, trimmed, value_of}
use Rattle.term_table.specs.declared.terms.DataType.{DataType}
use Rattle.term_table.specs.declared.terms.DataType.TheVariants as data_types
use Rattle.term_table.specs.SemanticModel.{is_extension}
use Rattle.term_table.specs.Rows.{is_base64, data_type_of}
use Rattle.bind_rows.specs.declared.rows.Form.{Form}
use Rattle.bind_rows.specs.declared.rows.Form.TheVariants as forms
use Rattle.bind_rows.specs.Added.{data_type_of_form}

-- A value that is told of a term: none where the string says none.
pub record ParsedValue : Type 0 where
  pub term : Term
  pub value : Option Value

-- by the type of the term, which is one wherever it stands
abbrev pub by_type : Term → List ℕ → Option Value
by_type term string = option_and_then (λ data_type. value_of data_type string) (data_type_of term)

-- ---- dates without dashes (UN/CEFACT, format 102)

abbrev pub plain_date : List ℕ → Option Value
plain_date string = elim (list_all is_char string) [ true ↦ option_map values.Date (read_plain_day (trimmed string)) | false ↦ None ]

-- ---- BT-8 by UNTDID 2475, for its codes in UNTDID 2005

pub record Image : Type 0 where
  pub written : List ℕ
  pub code : List ℕ

abbrev pub images : List Image
images = record { written = codes "5"; code = codes "3" } ∷ record { written = codes "29"; code = codes "35" } ∷ record {
  written = codes "72";
  code =
      codes "432";
} ∷ []

abbrev pub image_among : List Image → List ℕ → Option Value
image_among [] string = None
image_among (image ∷ images) string = elim (bytes_eq image.written string) [ true ↦ Some (values.Code image.code) | false ↦ image_among images string ]

abbrev pub due_date_type : List ℕ → Option Value
due_date_type string = image_among images (trimmed string)

-- ---- notes with a subject code: `#`, three letters or digits, `#`, and a text that isn't blank

abbrev pub subject_code : Term
subject_code = record { number = 21; part = 0 }

abbrev pub note : Term
note = record { number = 22; part = 0 }

abbrev pub is_subject_character : ℕ → Bool
is_subject_character c = is_within 65 90 c || is_within 48 57 c

abbrev pub plain_note : List ℕ → List ParsedValue
plain_note string = record { term = note; value = by_type note string } ∷ []

-- The note comes first: what is wrong with both is told of it.
abbrev pub coded : List ℕ → List ℕ → List ParsedValue
coded code text = record { term = note; value = by_type note text } ∷ (record { term = subject_code; value = by_type subject_code code } ∷ [])

abbrev pub note_behind : List ℕ → ℕ → ℕ → ℕ → ℕ → ℕ → List ℕ → List ParsedValue
note_behind string first a b c last text = elim ((first == 35) && (last == 35)) [
  | true ↦ elim (list_all is_subject_character (a ∷ b ∷ c ∷ []) && not (is_blank text)) [ true ↦ coded (a ∷ b ∷ c ∷ []) text | false ↦ plain_note string ]
  | false ↦ plain_note string
]

abbrev pub note_of : List ℕ → List ParsedValue
note_of (first ∷ (a ∷ (b ∷ (c ∷ (last ∷ text))))) = note_behind (first ∷ (a ∷ (b ∷ (c ∷ (last ∷ text))))) first a b c last text
note_of string = plain_note string

-- ---- by the form

abbrev pub is_term : ℕ → Term → Bool
is_term n term = (term.number == n) && (term.part == 0)

abbrev pub is_day : Option DataType → Bool
is_day data_type = elim data_type [ Some data_types.D ↦ true | _ ↦ false ]

-- The form is one for the term: a day without dashes for a term of that type, BT-8 by UNTDID 2475, BT-22 behind its subject code,
-- a type of its own for a term that a user added.
abbrev pub suits : Form → Term → Bool
suits forms.Model term = true
suits forms.PlainDate term = is_day (data_type_of term)
suits forms.DueDateTypeCode term = is_term 8 term
suits forms.CodedNote term = is_term 22 term
suits (forms.Typed data_type) term = is_extension term && not (is_base64 data_type)
suits forms.TypedPlainDate term = is_extension term

-- the type of the values of a term that stands in this form
abbrev pub type_of : Form → Term → Option DataType
type_of form term = elim (data_type_of_form form) [ None ↦ data_type_of term | Some data_type ↦ Some data_type ]

-- A form that isn't one for the row's term counts for nothing.
abbrev pub form_for : Form → Term → Form
form_for form term = elim (suits form term) [ true ↦ form | false ↦ forms.Model ]

abbrev pub parsed_in : Form → Term → List ℕ → List ParsedValue
parsed_in forms.Model term string = record { term = term; value = by_type term string } ∷ []
parsed_in forms.PlainDate term string = record { term = term; value = plain_date string } ∷ []
parsed_in forms.DueDateTypeCode term string = record { term = term; value = due_date_type string } ∷ []
parsed_in forms.CodedNote term string = note_of string
parsed_in (forms.Typed data_type) term string = record { term = term; value = value_of data_type string } ∷ []
parsed_in forms.TypedPlainDate term string = record { term = term; value = plain_date string } ∷ []

abbrev pub parsed : Form → Term → List ℕ → List ParsedValue
parsed form term string = parsed_in (form_for form term) term string
