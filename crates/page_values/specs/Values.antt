-- How a value stands on the page: as the text of one element, with the number and the name of its term as title. What is written is
-- told in bytes of UTF-8.
use Rattle.std.specs.Prelude.{ℕ, Bool, true, false, List, [], ◌∷◌, ◌++◌, find, codes, decimal, chars, bytes_eq, encode_utf8_all, Option, Some, None, option_map}
use Rattle.std.specs.Prelude.{if◌then◌else◌}
use Rattle.std.specs.List.{list_any}
use Rattle.term_table.specs.declared.terms.Term.{Term}
use Rattle.term_table.specs.Names.{name_of}
use Rattle.inv_terms.specs.declared.values.Value.{Value}
use Rattle.inv_terms.specs.declared.values.Value.TheVariants as values
use Rattle.inv_terms.specs.Values.{spelled}
use Rattle.inv_terms.specs.Attachments.{attached_document, base64_in, without_white_space}
use Rattle.inv_listing.specs.Listing.{term_text}
use Rattle.page_tables.specs.declared.forms.Meanings.{Meanings}
use Rattle.page_tables.specs.declared.forms.Meanings.TheVariants as meanings
use Rattle.page_tables.specs.Tables.{Word, categories, kinds, means, other_kind, points, saved_types, units}
use Rattle.page_values.specs.Escapes.{in_page}
use Rattle.page_values.specs.Places.{Place, value_at, size_at}

-- ---- texts

-- a value's text, escaped
abbrev pub value_text : Value → List ℕ
value_text value = in_page (spelled value)

-- the same of a term, where it stands
abbrev pub text_at : Place → Term → List ℕ
text_at place term = elim (value_at place term) [ None ↦ [] | Some value ↦ value_text value ]

abbrev pub name_text : Option (List ℕ) → List ℕ
name_text None = []
name_text (Some name) = 0x20 ∷ name

-- `BT-1 Invoice number`; of a term that a user's table adds, `EXT-1`
abbrev pub title : Term → List ℕ
title term = term_text term ++ name_text (name_of term)

-- the element that a value is: how it begins, and the whole
abbrev pub start : Term → List ℕ
start term = codes "<bdi title=\"" ++ (title term ++ codes "\">")

abbrev pub element : Term → List ℕ → List ℕ
element term text = start term ++ (text ++ codes "</bdi>")

-- ---- what follows a value

abbrev pub is_percentage : Value → Bool
is_percentage (values.Text _) = false
is_percentage (values.Identifier _) = false
is_percentage (values.Code _) = false
is_percentage (values.Amount _) = false
is_percentage (values.Quantity _) = false
is_percentage (values.Percent _) = true
is_percentage (values.Date _) = false
is_percentage (values.Base64 _) = false

-- behind a percentage a space that doesn't break, and `%`
abbrev pub sign : Bool → List ℕ
sign true = 0xC2 ∷ 0xA0 ∷ 0x25 ∷ []
sign false = []

-- the words beside a code in a table
abbrev pub word_in : List Word → List ℕ → Option (List ℕ)
word_in table code = option_map (λ (word : Word). word.1) (find (λ (word : Word). bytes_eq (chars word.0) code) table)

abbrev pub meaning_of : Meanings → List ℕ → Option (List ℕ)
meaning_of meanings.None code = None
meaning_of meanings.Category code = word_in categories code
meaning_of meanings.Means code = word_in means code
meaning_of meanings.Unit code = word_in units code
meaning_of meanings.Point code = word_in points code

abbrev pub meaning_text : Option (List ℕ) → List ℕ
meaning_text None = []
meaning_text (Some meaning) = codes " <i>" ++ (meaning ++ codes "</i>")

-- ---- kinds of documents

abbrev pub or_other : Option (List ℕ) → List ℕ
or_other None = other_kind
or_other (Some word) = word

abbrev pub kind_word : List ℕ → List ℕ
kind_word code = or_other (word_in kinds code)

-- ---- attached documents

abbrev pub part_of_attached : ℕ → Term
part_of_attached part = record { number = 125; part = part }

abbrev pub is_among : List (List ℕ) → List ℕ → Bool
is_among texts text = list_any (λ other. bytes_eq (chars other) text) texts

abbrev pub is_saved : List ℕ → Bool
is_saved media_type = is_among saved_types media_type

abbrev pub media_type : Place → Option Value
media_type place = value_at place (part_of_attached 1)

abbrev pub is_saved_value : Option Value → Bool
is_saved_value None = false
is_saved_value (Some value) = is_saved (spelled value)

abbrev pub size_text : ℕ → List ℕ
size_text size = decimal size ++ codes " bytes"

-- where its bytes are, and how many
abbrev pub link : Place → List ℕ → ℕ → List ℕ
link place text size =
    codes "\" href=\"data:" ++ (text_at place (part_of_attached 1) ++ (codes ";base64," ++ (encode_utf8_all (without_white_space text) ++
    (codes "\">save</a> " ++ size_text size))))

-- what a reader can save
abbrev pub saved : Place → List ℕ → ℕ → List ℕ
saved place text size =
    codes "<a title=\"" ++ (title attached_document ++ (codes "\" download=\"" ++ (text_at place (part_of_attached 2) ++ link place text size)))

abbrev pub size_alone : ℕ → List ℕ
size_alone size = element attached_document (size_text size)

abbrev pub sized : Place → List ℕ → ℕ → List ℕ
sized place text size = if is_saved_value (media_type place) then saved place text size else size_alone size

abbrev pub not_base64 : List ℕ
not_base64 = element attached_document (codes "not base64")

-- an attached document: how many bytes it has, and where its media type is one of those, what saves it
abbrev pub attached : Place → List ℕ → List ℕ
attached place text = elim (size_at place) [ None ↦ not_base64 | Some size ↦ sized place text size ]

-- ---- values

-- any other value
abbrev pub plain : Term → Meanings → Value → List ℕ
plain term meanings value = element term (value_text value) ++ (sign (is_percentage value) ++ meaning_text (meaning_of meanings (spelled value)))

abbrev pub shown : Place → Term → Meanings → Value → List ℕ
shown place term meanings value = elim (base64_in value) [ None ↦ plain term meanings value | Some text ↦ attached place text ]

-- a term's value, or nothing
abbrev pub value_of : Place → Term → Meanings → List ℕ
value_of place term meanings = elim (value_at place term) [ None ↦ [] | Some value ↦ shown place term meanings value ]
