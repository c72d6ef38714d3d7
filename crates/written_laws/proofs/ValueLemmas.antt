-- What is written of an invoice is of Chars: its values are, and so is what rows write by themselves.
use Rattle.std.proofs.Common.{◌≡◌, ℕ, zero, suc, ◌+◌, ◌<◌, ◌/◌, ◌%◌, ◌^◌, Bool, true, false, ◌||◌, List, [], ◌∷◌, ◌++◌, Option, Some, None, option_map, refl}
use Rattle.std.proofs.Common.{arith, mod-lt, lit<, nat_le, if◌then◌else◌, find, is_some, is_none, option_and_then}
use Rattle.std.specs.Prelude.{◌==◌, not}
use Rattle.std.specs.Str.{bytes_eq}
use Rattle.std.specs.List.{list_all, AllByRecursion}
use Rattle.std.proofs.lemmas.List.Elements.{recursion_from_All}
use Rattle.inv_base.specs.Characters.{is_char, is_within}
use Rattle.inv_decimal.specs.Digits.{last_digits}
use Rattle.inv_decimal.specs.CivilDay.{CivilDay}
use Rattle.inv_decimal.specs.WrittenDay.{plain_day_text}
use Rattle.term_table.specs.declared.terms.DataType.{DataType}
use Rattle.term_table.specs.declared.terms.Term.{Term}
use Rattle.term_table.specs.declared.contexts.Context.{Context}
use Rattle.term_table.specs.Contexts.{root_context}
use Rattle.inv_terms.specs.declared.values.Value.{Value}
use Rattle.inv_terms.specs.declared.values.Value.TheVariants as values
use Rattle.inv_terms.specs.declared.entries.Entry.{Entry}
use Rattle.inv_terms.specs.Values.{value_by, value_of, spelled}
use Rattle.inv_terms.specs.Listing.{Fits, IsInvoice, is_at, value_in}
use Rattle.bind_rows.specs.declared.rows.Content.{Content}
use Rattle.bind_rows.specs.declared.rows.Content.TheVariants as contents
use Rattle.bind_rows.specs.declared.rows.Form.{Form}
use Rattle.bind_rows.specs.declared.rows.Form.TheVariants as forms
use Rattle.bind_rows.specs.declared.rows.Row.{Row}
use Rattle.bind_rows.specs.declared.rows.Written.{Written}
use Rattle.bind_rows.specs.declared.rows.Written.TheVariants as written
use Rattle.bind_rows.specs.Added.{data_type_of_form, is_typed}
use Rattle.bind_meaning.specs.Values.{Image, images, subject_code, form_for}
use Rattle.bind_meaning.specs.Writing.{context_for, written_among, plain_date, coded_note, formed, is_iban, if_so, scheme_of, if_due, filled, has_slots}
use Rattle.bind_meaning.specs.Writing.{is_of_type, of_type, of_form, value_for, term_text}
use Rattle.bind_meaning.specs.Trees.{constant_or_text}
use Rattle.written_laws.specs.Readable.{constant_of, placeholder_of}
use Rattle.written_laws.proofs.ListLemmas.{and-true, or-left, or-right, is-at-most, all-append}

abbrev pub IsChars : List ℕ → Type 0
IsChars text = list_all is_char text ≡ true

-- ---- days without dashes

fourth : (a b c d e : Bool) → d ≡ true → (a || (b || (c || (d || e)))) ≡ true
fourth a b c d e h = or-right a (b || (c || (d || e))) (or-right b (c || (d || e)) (or-right c (d || e) (or-left d e h)))

digit-char : (r : ℕ) → r < 10 → is_char (48 + r) ≡ true
unfolding is_char
digit-char r h =
    fourth (48 + r == 0x9) (48 + r == 0xA) (48 + r == 0xD) (is_within 0x20 0xD7FF (48 + r))
    (is_within 0xE000 0xFFFD (48 + r) || is_within 0x10000 0x10FFFF (48 + r))
    (and-true (nat_le 0x20 (48 + r)) (nat_le (48 + r) 0xD7FF) (is-at-most 0x20 (48 + r) (omega arith)) (is-at-most (48 + r) 0xD7FF (omega arith)))

last-chars : (k n : ℕ) → IsChars (last_digits k n)
unfolding last_digits
last-chars zero n = refl
last-chars (suc k) n = and-true (is_char (48 + n / 10 ^ k % 10)) (list_all is_char (last_digits k n))
    (digit-char (n / 10 ^ k % 10) (mod-lt (n / 10 ^ k) {m = 10} (lit< tt))) (last-chars k n)

day-chars : (day : CivilDay) → IsChars (plain_day_text day)
unfolding plain_day_text
day-chars day =
    all-append is_char (last_digits 4 day.year) (last_digits 2 day.month ++ last_digits 2 day.day) (last-chars 4 day.year)
    (all-append is_char (last_digits 2 day.month) (last_digits 2 day.day) (last-chars 2 day.month) (last-chars 2 day.day))

-- ---- values

-- A string that has a value is of Chars.
read-chars : (data_type : DataType) (text : List ℕ) (value : Value) → value_of data_type text ≡ Some value → IsChars text
unfolding value_of
read-chars data_type text value h = go (list_all is_char text) h
  where
    go : (b : Bool) → (if b then value_by data_type text else None) ≡ Some value → b ≡ true
    go true k = refl
    go false k = absurd (let z : ◌≡◌ {A = Option Value} None (Some value) = k in cc)

abbrev pub AreChars : List Entry → Type 0
AreChars es = AllByRecursion (λ (e : Entry). IsChars (spelled e.value)) es

abbrev pub SpelledBack : Type 0
SpelledBack = (data_type : DataType) (text : List ℕ) (value : Value) → value_of data_type text ≡ Some value → value_of data_type (spelled value) ≡ Some value

-- The values of an invoice are.
pub invoice-chars : SpelledBack → (es : List Entry) → IsInvoice es → AreChars es
invoice-chars back es invoice = go es (recursion_from_All (λ (e : Entry). Fits e.term e.value) es invoice.fit)
  where
    go : (es : List Entry) → AllByRecursion (λ (e : Entry). Fits e.term e.value) es → AreChars es
    go [] h = tt
    go (e ∷ es) h = (read-chars h.0.data_type (spelled e.value) e.value (back h.0.data_type h.0.text e.value h.0.read), go es h.1)

-- It is nothing, or of Chars.
abbrev pub ValueChars : Option Value → Type 0
ValueChars None = Unit {0}
ValueChars (Some value) = IsChars (spelled value)

abbrev pub TextChars : Option (List ℕ) → Type 0
TextChars None = Unit {0}
TextChars (Some text) = IsChars text

standing-chars : (es : List Entry) → AreChars es → (term : Term) (c : Context) → ValueChars (value_in es term c)
standing-chars [] h term c = tt
standing-chars (e ∷ es) h term c = go (is_at term c e) (standing-chars es h.1 term c)
  where
    go : (b : Bool) → ValueChars (value_in es term c) → ValueChars (option_map (λ (e : Entry). e.value) (if b then Some e else find (is_at term c) es))
    go true k = h.0
    go false k = k

date-chars : (value : Value) → IsChars (spelled value) → IsChars (plain_date value)
date-chars (values.Date day) h = day-chars day
date-chars (values.Text text) h = h
date-chars (values.Identifier text) h = h
date-chars (values.Code text) h = h
date-chars (values.Amount number) h = h
date-chars (values.Quantity number) h = h
date-chars (values.Percent number) h = h
date-chars (values.Base64 text) h = h

image-chars : (image : Image) (code others : List ℕ) → IsChars image.written → IsChars others →
    IsChars (elim (bytes_eq image.code code) [ true ↦ image.written | false ↦ others ])
image-chars image code others h k = go (bytes_eq image.code code)
  where
    go : (b : Bool) → IsChars (elim b [ true ↦ image.written | false ↦ others ])
    go true = h
    go false = k

among-chars : (list : List Image) → AllByRecursion (λ (image : Image). IsChars image.written) list → (code : List ℕ) → IsChars code →
    IsChars (written_among list code)
among-chars [] h code k = k
among-chars (image ∷ list) h code k = image-chars image code (written_among list code) h.0 (among-chars list h.1 code k)

images-chars : (code : List ℕ) → IsChars code → IsChars (written_among images code)
unfolding is_char
images-chars code h = among-chars images (refl, (refl, (refl, tt))) code h

hash : is_char 35 ≡ true
unfolding is_char
hash = refl

note-chars : (code : Option Value) (text : List ℕ) → ValueChars code → IsChars text → IsChars (coded_note code text)
note-chars None text h k = k
note-chars (Some code) text h k =
    and-true (is_char 35) (list_all is_char (spelled code ++ (35 ∷ text))) hash
    (all-append is_char (spelled code) (35 ∷ text) h (and-true (is_char 35) (list_all is_char text) hash k))

-- ---- what rows write

type-chars : (b : Bool) (value : Value) → IsChars (spelled value) → ValueChars (elim b [ true ↦ Some value | false ↦ None ])
type-chars true value h = h
type-chars false value h = tt

data_type-chars : (o : Option DataType) (value : Value) → IsChars (spelled value) → ValueChars (elim o [
  | None ↦ Some value
  | Some data_type ↦ of_type
      data_type value
])
data_type-chars None value h = h
data_type-chars (Some data_type) value h = type-chars (is_of_type data_type value) value h

form-chars : (form : Form) (o : Option Value) → ValueChars o → ValueChars (option_and_then (of_form form) o)
form-chars form None h = tt
form-chars form (Some value) h = data_type-chars (data_type_of_form form) value h

-- what a row takes of what stands: whether it says the type itself, and whether the context has its groups
value-chars : (form : Form) (typed slots : Bool) (o : Option Value) → ValueChars o
    → ValueChars (elim typed [ true ↦ elim slots [ true ↦ option_and_then (of_form form) o | false ↦ None ] | false ↦ o ])
value-chars form true true o h = form-chars form o h
value-chars form true false o h = tt
value-chars form false slots o h = h

module _ (es : List Entry) (chars : AreChars es) where
  formed-chars : (form : Form) (c : Context) (value : Value) → IsChars (spelled value) → IsChars (formed form es c value)
  formed-chars forms.Model c value h = h
  formed-chars forms.PlainDate c value h = date-chars value h
  formed-chars forms.DueDateTypeCode c value h = images-chars (spelled value) h
  formed-chars forms.CodedNote c value h = note-chars (value_in es subject_code c) (spelled value) (standing-chars es chars subject_code c) h
  formed-chars (forms.Typed data_type) c value h = h
  formed-chars forms.TypedPlainDate c value h = date-chars value h

  so-chars : (b : Bool) (text : List ℕ) → IsChars text → TextChars (if_so b text)
  so-chars true text h = h
  so-chars false text h = tt

  due-chars : (rule : Written) (term : Term) (c : Context) (text : List ℕ) → IsChars text → TextChars (if_due rule es term c text)
  due-chars written.Always term c text h = h
  due-chars written.Never term c text h = tt
  due-chars written.IfIban term c text h = so-chars (is_iban text) text h
  due-chars written.IfNotIban term c text h = so-chars (not (is_iban text)) text h
  due-chars written.IfScheme term c text h = so-chars (is_some (value_in es (scheme_of term) c)) text h
  due-chars written.IfNoScheme term c text h = so-chars (is_none (value_in es (scheme_of term) c)) text h
  due-chars (written.OrPlaceholder placeholder) term c text h = h
  due-chars written.VatTotal term c text h = h
  due-chars written.AccountingVatTotal term c text h = h

  filled-chars : (rule : Written) (c : Context) → IsChars (placeholder_of rule) → TextChars (filled rule es c)
  filled-chars written.Always c h = tt
  filled-chars written.Never c h = tt
  filled-chars written.IfIban c h = tt
  filled-chars written.IfNotIban c h = tt
  filled-chars written.IfScheme c h = tt
  filled-chars written.IfNoScheme c h = tt
  filled-chars (written.OrPlaceholder placeholder) c h = so-chars (is_some (value_in es placeholder.beside c)) placeholder.text h
  filled-chars written.VatTotal c h = tt
  filled-chars written.AccountingVatTotal c h = tt

  taken-chars : (row : Row) (term : Term) (c : Context) → ValueChars (value_for row es term c)
  taken-chars row term c = value-chars (form_for row.form term) (is_typed (form_for row.form term)) (has_slots row c) (value_in es term c)
      (standing-chars es chars term c)

  term-chars : (row : Row) (term : Term) (c : Context) → IsChars (placeholder_of row.written) → TextChars (term_text row es term c)
  term-chars row term c h = go (value_for row es term c) (taken-chars row term c)
    where
      go : (o : Option Value) → ValueChars o → TextChars (elim o [
        | None ↦ filled row.written es c
        | Some value ↦ if_due row.written es term c (formed (form_for row.form term) es c value)
      ])
      go None k = filled-chars row.written c h
      go (Some value) k = due-chars row.written term c (formed (form_for row.form term) es c value) (formed-chars (form_for row.form term) c value k)

  abbrev term_in_row : Row → Context → Content → Option (List ℕ)
  term_in_row row c content = elim content [ (contents.Term term) ↦ term_text row es term (context_for row c) | (contents.Constant text) ↦ None ]

  abbrev text_by : Option (List ℕ) → Content → Option (List ℕ)
  text_by o content = elim content [ (contents.Constant text) ↦ Some text | (contents.Term term) ↦ o ]

  pub row-chars : (row : Row) (c : Context) → IsChars (constant_of row.content) → IsChars (placeholder_of row.written) → TextChars (constant_or_text es c row)
  row-chars row c h k = go row.content h
    where
      go : (content : Content) → IsChars (constant_of content) → TextChars (text_by (term_in_row row c content) content)
      go (contents.Constant text) h = h
      go (contents.Term term) h = term-chars row term (context_for row c) k

  pub currency-chars : (term : Term) → ValueChars (value_in es term root_context)
  currency-chars term = standing-chars es chars term root_context
