-- What is written in a form is read by it: values as the model spells them, and days without dashes.
use Rattle.std.proofs.Common.{◌≡◌, ℕ, ◌+◌, ◌/◌, ◌%◌, ◌^◌, ◌<◌, zero, suc, Bool, true, false, not, ◌&&◌, List, [], ◌∷◌, ◌++◌, ◌||◌, ◌⊎◌, inl, inr, Option, Some}
use Rattle.std.proofs.Common.{None, refl, sym, ap, ◌∙◌, subst, arith}
use Rattle.std.specs.Str.{bytes_eq}
use Rattle.std.proofs.lemmas.Slice.Eq.{bytes_eq-Decides}
use Rattle.std.specs.Prelude.{codes, ◌==◌, nat_le, if◌then◌else◌, option_map, option_and_then}
use Rattle.std.specs.List.{list_all, list_any}
use Rattle.std.proofs.lemmas.Option.{same_Some}
use Rattle.std.proofs.lemmas.Bool.{false≢true}
use Rattle.std.proofs.lemmas.Bool.Decides.{nat_tests}
use Rattle.std.proofs.lemmas.List.Folds.{list_all-append}
use Rattle.inv_base.specs.Characters.{is_char, is_white_space}
use Rattle.code_lists.specs.Codes.{is_code}
use Rattle.inv_decimal.specs.CivilDay.{CivilDay, IsDay}
use Rattle.inv_decimal.specs.Digits.{last_digits}
use Rattle.inv_decimal.specs.WrittenNumber.{read_scaled, read_decimal, written_units}
use Rattle.inv_decimal.specs.WrittenDay.{read_plain_day, read_dashed_day, plain_day_text}
use Rattle.term_table.specs.declared.terms.DataType.{DataType}
use Rattle.term_table.specs.declared.terms.DataType.TheVariants as data_types
use Rattle.term_table.specs.declared.terms.Term.{Term}
use Rattle.term_table.specs.declared.contexts.Context.{Context}
use Rattle.term_table.specs.SemanticModel.{is_extension}
use Rattle.term_table.specs.Rows.{is_base64, data_type_of}
use Rattle.term_table.proofs.SeatLemmas.{same_term_is}
use Rattle.term_table.proofs.ExtensionLemmas.{one-type, modelled-type}
use Rattle.inv_terms.specs.declared.values.Value.{Value}
use Rattle.inv_terms.specs.declared.values.Value.TheVariants as values
use Rattle.inv_terms.specs.declared.entries.Entry.{Entry}
use Rattle.inv_terms.specs.Values.{is_blank, without_leading, without_trailing, trimmed, identifier_in, value_by, spelled, value_of}
use Rattle.inv_terms.specs.Listing.{Fits, value_in}
use Rattle.inv_terms.proofs.TrimLemmas.{HasEnds, trimmed-between}
use Rattle.bind_rows.specs.declared.rows.Form.{Form}
use Rattle.bind_rows.specs.declared.rows.Form.TheVariants as forms
use Rattle.bind_rows.specs.Added.{is_typed}
use Rattle.bind_meaning.specs.Values as meaning
use Rattle.bind_meaning.specs.Values.{Image, images, ParsedValue, by_type, is_day, suits, form_for, parsed_in}
use Rattle.bind_meaning.specs.Elements.{is_full}
use Rattle.bind_meaning.specs.Writing as writing
use Rattle.bind_meaning.specs.Writing.{formed, is_of_type, of_form}
use Rattle.binding_laws.proofs.ReachLemmas.{Among}
use Rattle.binding_laws.proofs.ListLemmas.{not-true}
use Rattle.binding_laws.specs.Plain.{is_whole, is_of_one_term}
use Rattle.binding_laws.specs.Known.{is_trimmed}
use Rattle.binding_laws.specs.Covered.{is_subject, is_imaged, is_coded_note, is_read_back}
use Rattle.binding_laws.specs.Faultless.{is_model}

both : (a b : Bool) → (a && b) ≡ true → (a ≡ true) × (b ≡ true)
both true b h = (refl, h)
both false b h = absurd (false≢true h)

-- ---- the laws that are used

abbrev pub ReadsBack : Type 0
ReadsBack = (data_type : DataType) (text : List ℕ) (value : Value) → value_of data_type text ≡ Some value → value_of data_type (spelled value) ≡ Some value

abbrev pub ReadsDays : Type 0
ReadsDays = (d : CivilDay) → IsDay d → read_plain_day (plain_day_text d) ≡ Some d

abbrev pub AreDays : Type 0
AreDays = (cs : List ℕ) (d : CivilDay) → read_dashed_day cs ≡ Some d → IsDay d

pub record Laws : Type 0 where
  pub values : ReadsBack
  pub days : ReadsDays
  pub are_days : AreDays

-- ---- blank strings have no value

leading-blank : (text : List ℕ) → is_blank text ≡ true → without_leading text ≡ []
leading-blank [] h = refl
leading-blank (c ∷ text) h = let k = both (is_white_space c) (is_blank text) h in rw k.0 (leading-blank text k.1)

blank-trimmed : (text : List ℕ) → is_blank text ≡ true → trimmed text ≡ []
blank-trimmed text h = ap without_trailing (leading-blank text h)

blank-by : (data_type : DataType) (text : List ℕ) → is_blank text ≡ true → value_by data_type text ≡ None
unfolding read_scaled read_decimal written_units read_dashed_day
blank-by data_types.T text h = ap (λ b. option_map values.Text (if b then None else Some text)) h
blank-by data_types.I text h = ap (λ t. option_map values.Identifier (identifier_in t)) (blank-trimmed text h)
blank-by data_types.C text h = ap (λ t. option_map values.Code (if is_code t then Some t else None)) (blank-trimmed text h)
blank-by data_types.A text h = ap (λ t. option_map values.Amount (read_scaled t)) (blank-trimmed text h)
blank-by data_types.Q text h = ap (λ t. option_map values.Quantity (read_scaled t)) (blank-trimmed text h)
blank-by data_types.P text h = ap (λ t. option_map values.Percent (read_scaled t)) (blank-trimmed text h)
blank-by data_types.D text h = ap (λ t. option_map values.Date (read_dashed_day t)) (blank-trimmed text h)
blank-by data_types.B text h = ap (λ b. option_map values.Base64 (if b then None else Some text)) h

blank-none : (data_type : DataType) (text : List ℕ) → is_blank text ≡ true → value_of data_type text ≡ None
unfolding value_of
blank-none data_type text h = go (list_all is_char text)
  where
    go : (b : Bool) → (if b then value_by data_type text else None) ≡ None
    go true = blank-by data_type text h
    go false = refl

blank-day : (text : List ℕ) → is_blank text ≡ true → meaning.plain_date text ≡ None
unfolding read_plain_day
blank-day text h = go (list_all is_char text)
  where
    go : (b : Bool) → ◌≡◌ {A = Option Value} (elim b [ true ↦ option_map values.Date (read_plain_day (trimmed text)) | false ↦ None ]) None
    go true = ap (λ t. option_map values.Date (read_plain_day t)) (blank-trimmed text h)
    go false = refl

-- ---- days without dashes

is_plain : ℕ → Bool
is_plain c = nat_le 43 c && nat_le c 57

plain-char : (c : ℕ) → is_plain c ≡ true → is_char c ≡ true
unfolding is_plain is_char
plain-char c h = grind (arith, nat_tests)

plain-black : (c : ℕ) → is_plain c ≡ true → is_white_space c ≡ false
unfolding is_plain is_white_space
plain-black c h = grind (arith, nat_tests)

plain-chars : (text : List ℕ) → list_all is_plain text ≡ true → list_all is_char text ≡ true
plain-chars [] h = refl
plain-chars (c ∷ text) h = let k = both (is_plain c) _ h in rw (plain-char c k.0) (plain-chars text k.1)

plain-ends : (text : List ℕ) → list_all is_plain text ≡ true → HasEnds text
plain-ends text h = record {
  first = λ c rest e. plain-black c (both (is_plain c) _ (ap (list_all is_plain) (sym e) ∙ h)).0;
  last = λ init l e. plain-black l (both (is_plain l) true
      (both (list_all is_plain init) _ (sym (list_all-append is_plain init (l ∷ [])) ∙ (ap (list_all is_plain) (sym e) ∙ h))).1).0;
}

all-pair : (p : ℕ → Bool) (a b : List ℕ) → list_all p a ≡ true → list_all p b ≡ true → list_all p (a ++ b) ≡ true
all-pair p a b h k = list_all-append p a b ∙ rw (h, k) refl

last_digits-plain : (k n : ℕ) → list_all is_plain (last_digits k n) ≡ true
unfolding last_digits is_plain
last_digits-plain zero n = refl
last_digits-plain (suc k) n =
    let d = n / 10 ^ k in
    let low : d % 10 < 10 = omega arith in
    let a : nat_le 43 (48 + d % 10) ≡ true = grind (arith, nat_tests) in
    let b : nat_le (48 + d % 10) 57 ≡ true = grind (arith, nat_tests) in
    rw (a, b) (last_digits-plain k n)

day-plain : (d : CivilDay) → list_all is_plain (plain_day_text d) ≡ true
unfolding plain_day_text
day-plain d =
    all-pair is_plain (last_digits 4 d.year) _ (last_digits-plain 4 d.year)
    (all-pair is_plain (last_digits 2 d.month) _ (last_digits-plain 2 d.month) (last_digits-plain 2 d.day))

append-nil : (xs : List ℕ) → xs ++ [] ≡ xs
append-nil [] = refl
append-nil (x ∷ xs) = ap (λ z. x ∷ z) (append-nil xs)

trimmed-kept : (text : List ℕ) → HasEnds text → trimmed text ≡ text
trimmed-kept text h = ap trimmed (sym (append-nil text)) ∙ trimmed-between [] text [] refl refl h

abbrev dated : Bool → List ℕ → Option Value
dated b text = elim b [ true ↦ option_map values.Date (read_plain_day (trimmed text)) | false ↦ None ]

day-read : ReadsDays → (d : CivilDay) → IsDay d → meaning.plain_date (plain_day_text d) ≡ Some (values.Date d)
day-read back d is =
    let plain = day-plain d in
    ap (λ b. dated b (plain_day_text d)) (plain-chars _ plain) ∙
    ap (option_map values.Date) (ap read_plain_day (trimmed-kept _ (plain-ends _ plain)) ∙ back d is)

-- ---- values of a type

some-if : (b : Bool) (o : Option Value) (y : Value) → (if b then o else None) ≡ Some y → o ≡ Some y
some-if true o y h = h
some-if false o y h = absurd (let k : ◌≡◌ {A = Option Value} None (Some y) = h in cc)

taken : (o : Option CivilDay) (y : Value) → option_map values.Date o ≡ Some y → (d : CivilDay) × (o ≡ Some d) × (values.Date d ≡ y)
taken None y h = absurd (let k : ◌≡◌ {A = Option Value} None (Some y) = h in cc)
taken (Some d) y h = (d, refl, same_Some _ _ h)

-- ---- the type of a value

abbrev own_data_type : Value → DataType
own_data_type (values.Text text) = data_types.T
own_data_type (values.Identifier text) = data_types.I
own_data_type (values.Code text) = data_types.C
own_data_type (values.Amount number) = data_types.A
own_data_type (values.Quantity number) = data_types.Q
own_data_type (values.Percent number) = data_types.P
own_data_type (values.Date day) = data_types.D
own_data_type (values.Base64 text) = data_types.B

-- a value that a string has by a type, is of it
own-data_type : (data_type : DataType) (text : List ℕ) (value : Value) → value_of data_type text ≡ Some value → own_data_type value ≡ data_type
unfolding value_of
own-data_type data_type text value h = by data_type (some-if (list_all is_char text) (value_by data_type text) value h)
  where
    made : {X : Type 0} (make : X → Value) (l : DataType) → ((x : X) → own_data_type (make x) ≡ l) → (o : Option X) → option_map make o ≡ Some value →
        own_data_type value ≡ l
    made make l is None k = absurd (let z : ◌≡◌ {A = Option Value} None (Some value) = k in cc)
    made make l is (Some x) k = ap own_data_type (sym (same_Some _ _ k)) ∙ is x

    by : (l : DataType) → value_by l text ≡ Some value → own_data_type value ≡ l
    by data_types.T k = made values.Text data_types.T (λ x. refl) (if is_blank text then None else Some text) k
    by data_types.I k = made values.Identifier data_types.I (λ x. refl) (identifier_in (trimmed text)) k
    by data_types.C k = made values.Code data_types.C (λ x. refl) (if is_code (trimmed text) then Some (trimmed text) else None) k
    by data_types.A k = made values.Amount data_types.A (λ x. refl) (read_scaled (trimmed text)) k
    by data_types.Q k = made values.Quantity data_types.Q (λ x. refl) (read_scaled (trimmed text)) k
    by data_types.P k = made values.Percent data_types.P (λ x. refl) (read_scaled (trimmed text)) k
    by data_types.D k = made values.Date data_types.D (λ x. refl) (read_dashed_day (trimmed text)) k
    by data_types.B k = made values.Base64 data_types.B (λ x. refl) (if is_blank text then None else Some text) k

data_type-of : (data_type : DataType) (value : Value) → is_of_type data_type value ≡ true → own_data_type value ≡ data_type
data_type-of data_types.T (values.Text text) h = refl
data_type-of data_types.T (values.Identifier text) h = absurd (false≢true h)
data_type-of data_types.T (values.Code text) h = absurd (false≢true h)
data_type-of data_types.T (values.Amount number) h = absurd (false≢true h)
data_type-of data_types.T (values.Quantity number) h = absurd (false≢true h)
data_type-of data_types.T (values.Percent number) h = absurd (false≢true h)
data_type-of data_types.T (values.Date day) h = absurd (false≢true h)
data_type-of data_types.T (values.Base64 text) h = absurd (false≢true h)
data_type-of data_types.I (values.Text text) h = absurd (false≢true h)
data_type-of data_types.I (values.Identifier text) h = refl
data_type-of data_types.I (values.Code text) h = absurd (false≢true h)
data_type-of data_types.I (values.Amount number) h = absurd (false≢true h)
data_type-of data_types.I (values.Quantity number) h = absurd (false≢true h)
data_type-of data_types.I (values.Percent number) h = absurd (false≢true h)
data_type-of data_types.I (values.Date day) h = absurd (false≢true h)
data_type-of data_types.I (values.Base64 text) h = absurd (false≢true h)
data_type-of data_types.C (values.Text text) h = absurd (false≢true h)
data_type-of data_types.C (values.Identifier text) h = absurd (false≢true h)
data_type-of data_types.C (values.Code text) h = refl
data_type-of data_types.C (values.Amount number) h = absurd (false≢true h)
data_type-of data_types.C (values.Quantity number) h = absurd (false≢true h)
data_type-of data_types.C (values.Percent number) h = absurd (false≢true h)
data_type-of data_types.C (values.Date day) h = absurd (false≢true h)
data_type-of data_types.C (values.Base64 text) h = absurd (false≢true h)
data_type-of data_types.A (values.Text text) h = absurd (false≢true h)
data_type-of data_types.A (values.Identifier text) h = absurd (false≢true h)
data_type-of data_types.A (values.Code text) h = absurd (false≢true h)
data_type-of data_types.A (values.Amount number) h = refl
data_type-of data_types.A (values.Quantity number) h = absurd (false≢true h)
data_type-of data_types.A (values.Percent number) h = absurd (false≢true h)
data_type-of data_types.A (values.Date day) h = absurd (false≢true h)
data_type-of data_types.A (values.Base64 text) h = absurd (false≢true h)
data_type-of data_types.Q (values.Text text) h = absurd (false≢true h)
data_type-of data_types.Q (values.Identifier text) h = absurd (false≢true h)
data_type-of data_types.Q (values.Code text) h = absurd (false≢true h)
data_type-of data_types.Q (values.Amount number) h = absurd (false≢true h)
data_type-of data_types.Q (values.Quantity number) h = refl
data_type-of data_types.Q (values.Percent number) h = absurd (false≢true h)
data_type-of data_types.Q (values.Date day) h = absurd (false≢true h)
data_type-of data_types.Q (values.Base64 text) h = absurd (false≢true h)
data_type-of data_types.P (values.Text text) h = absurd (false≢true h)
data_type-of data_types.P (values.Identifier text) h = absurd (false≢true h)
data_type-of data_types.P (values.Code text) h = absurd (false≢true h)
data_type-of data_types.P (values.Amount number) h = absurd (false≢true h)
data_type-of data_types.P (values.Quantity number) h = absurd (false≢true h)
data_type-of data_types.P (values.Percent number) h = refl
data_type-of data_types.P (values.Date day) h = absurd (false≢true h)
data_type-of data_types.P (values.Base64 text) h = absurd (false≢true h)
data_type-of data_types.D (values.Text text) h = absurd (false≢true h)
data_type-of data_types.D (values.Identifier text) h = absurd (false≢true h)
data_type-of data_types.D (values.Code text) h = absurd (false≢true h)
data_type-of data_types.D (values.Amount number) h = absurd (false≢true h)
data_type-of data_types.D (values.Quantity number) h = absurd (false≢true h)
data_type-of data_types.D (values.Percent number) h = absurd (false≢true h)
data_type-of data_types.D (values.Date day) h = refl
data_type-of data_types.D (values.Base64 text) h = absurd (false≢true h)
data_type-of data_types.B (values.Text text) h = absurd (false≢true h)
data_type-of data_types.B (values.Identifier text) h = absurd (false≢true h)
data_type-of data_types.B (values.Code text) h = absurd (false≢true h)
data_type-of data_types.B (values.Amount number) h = absurd (false≢true h)
data_type-of data_types.B (values.Quantity number) h = absurd (false≢true h)
data_type-of data_types.B (values.Percent number) h = absurd (false≢true h)
data_type-of data_types.B (values.Date day) h = absurd (false≢true h)
data_type-of data_types.B (values.Base64 text) h = refl

-- a value that fits a term of days is a day
day-value : AreDays → (data_type : DataType) (text : List ℕ) (value : Value) → data_type ≡ data_types.D → value_of data_type text ≡ Some value
    → (d : CivilDay) × (IsDay d) ×
    (values.Date d ≡ value)
unfolding value_of
day-value are data_type text value e h =
    let read : (if list_all is_char text then value_by data_types.D text else None) ≡ Some value =
    ap (λ l. if list_all is_char text then value_by l text else None) (sym e) ∙ h in
    let w = taken (read_dashed_day (trimmed text)) value (some-if (list_all is_char text) (value_by data_types.D text) value read) in
    (w.0, are (trimmed text) w.0 w.1, w.2)

day-type : (o : Option DataType) → is_day o ≡ true → o ≡ Some data_types.D
day-type None h = absurd (false≢true h)
day-type (Some data_types.D) h = refl
day-type (Some data_types.T) h = absurd (false≢true h)
day-type (Some data_types.I) h = absurd (false≢true h)
day-type (Some data_types.C) h = absurd (false≢true h)
day-type (Some data_types.A) h = absurd (false≢true h)
day-type (Some data_types.Q) h = absurd (false≢true h)
day-type (Some data_types.P) h = absurd (false≢true h)
day-type (Some data_types.B) h = absurd (false≢true h)

-- a row of a form for days has a term of days
form-day : (form : Form) (term : Term) (b : Bool) → suits form term ≡ b → (elim b [ true ↦ form | false ↦ forms.Model ]) ≡ forms.PlainDate →
    is_day (data_type_of term) ≡ true
form-day forms.PlainDate term true s e = s
form-day forms.PlainDate term false s e = absurd (let k : forms.Model ≡ forms.PlainDate = e in cc)
form-day forms.Model term true s e = absurd (let k : forms.Model ≡ forms.PlainDate = e in cc)
form-day forms.Model term false s e = absurd (let k : forms.Model ≡ forms.PlainDate = e in cc)
form-day forms.DueDateTypeCode term true s e = absurd (let k : forms.DueDateTypeCode ≡ forms.PlainDate = e in cc)
form-day forms.DueDateTypeCode term false s e = absurd (let k : forms.Model ≡ forms.PlainDate = e in cc)
form-day forms.CodedNote term true s e = absurd (let k : forms.CodedNote ≡ forms.PlainDate = e in cc)
form-day forms.CodedNote term false s e = absurd (let k : forms.Model ≡ forms.PlainDate = e in cc)
form-day (forms.Typed data_type) term true s e = absurd (let k : forms.Typed data_type ≡ forms.PlainDate = e in cc)
form-day (forms.Typed data_type) term false s e = absurd (let k : forms.Model ≡ forms.PlainDate = e in cc)
form-day forms.TypedPlainDate term true s e = absurd (let k : forms.TypedPlainDate ≡ forms.PlainDate = e in cc)
form-day forms.TypedPlainDate term false s e = absurd (let k : forms.Model ≡ forms.PlainDate = e in cc)

-- ---- by the form of a row

-- what is said beside the value: a subject code in front of a note
abbrev pub code_said : Form → List Entry → Context → List ParsedValue
code_said forms.Model es c = []
code_said forms.PlainDate es c = []
code_said forms.DueDateTypeCode es c = []
code_said (forms.Typed data_type) es c = []
code_said forms.TypedPlainDate es c = []
code_said forms.CodedNote es c = elim (value_in es meaning.subject_code c) [
  | None ↦ []
  | Some code ↦ record { term = meaning.subject_code; value = Some code } ∷ []
]

-- what is written of a value says that value, and isn't blank
pub record ReadsAs (form : Form) (term : Term) (es : List Entry) (c : Context) (value : Value) : Type 0 where
  pub parsed : parsed_in form term (formed form es c value) ≡ record { term = term; value = Some value } ∷ code_said form es c
  pub full : is_full (formed form es c value) ≡ true

not-blank : (text : List ℕ) (f : List ℕ → Option Value) (value : Value) → ((text : List ℕ) → is_blank text ≡ true → f text ≡ None) → f text ≡ Some value →
    is_full text ≡ true
not-blank text f value none some = go (is_blank text) refl
  where
    go : (b : Bool) → is_blank text ≡ b → not b ≡ true
    go false e = refl
    go true e = absurd (let z : ◌≡◌ {A = Option Value} None (Some value) = sym (none text e) ∙ some in cc)

-- A value isn't blank as the model spells it.
full-model : ReadsBack → (term : Term) (value : Value) → Fits term value → is_full (spelled value) ≡ true
full-model law term value f = not-blank (spelled value) (value_of f.data_type) value (blank-none f.data_type) (law f.data_type f.text value f.read)

-- One of a term of the semantic model is read by the term's type.
as-model : ReadsBack → (term : Term) (es : List Entry) (c : Context) (value : Value) → is_extension term ≡ false → Fits term value →
    ReadsAs forms.Model term es c value
as-model law term es c value own f =
    let back : value_of f.data_type (spelled value) ≡ Some value = law f.data_type f.text value f.read in
    record {
      parsed = ap (λ v. record { term = term; value = v } ∷ [])
          (ap (λ x. option_and_then (λ data_type. value_of data_type (spelled value)) x) (modelled-type term f.data_type f.typed own) ∙ back);
      full = full-model law term value f;
    }

-- a code has no white space around it
code-trimmed : (text : List ℕ) (value : Value) → value_of data_types.C text ≡ Some value → spelled value ≡ trimmed text
unfolding value_of
code-trimmed text value h = go (list_all is_char text) (is_code (trimmed text)) h
  where
    go : (a b : Bool) → (if a then option_map values.Code (if b then Some (trimmed text) else None) else None) ≡ Some value → spelled value ≡ trimmed text
    go true true k = ap spelled (sym (same_Some _ _ k))
    go true false k = absurd (let z : ◌≡◌ {A = Option Value} None (Some value) = k in cc)
    go false b k = absurd (let z : ◌≡◌ {A = Option Value} None (Some value) = k in cc)

pub code-as-it-is : Laws → (term : Term) (value : Value) → data_type_of term ≡ Some data_types.C → Fits term value → trimmed (spelled value) ≡ spelled value
code-as-it-is laws term value is f =
    let data_type : f.data_type ≡ data_types.C = one-type term f.data_type data_types.C f.typed is in
    sym (code-trimmed (spelled value) value (subst (λ l. value_of l (spelled value) ≡ Some value) data_type (laws.values f.data_type f.text value f.read)))

-- nor has an identifier
identifier-trimmed : (text : List ℕ) (value : Value) → value_of data_types.I text ≡ Some value → spelled value ≡ trimmed text
unfolding value_of
identifier-trimmed text value h = go (list_all is_char text) (trimmed text) h
  where
    go : (a : Bool) (t : List ℕ) → (if a then option_map values.Identifier (identifier_in t) else None) ≡ Some value → spelled value ≡ t
    go true (c ∷ t) k = ap spelled (sym (same_Some _ _ k))
    go true [] k = absurd (let z : ◌≡◌ {A = Option Value} None (Some value) = k in cc)
    go false t k = absurd (let z : ◌≡◌ {A = Option Value} None (Some value) = k in cc)

pub trimmed-as-it-is : Laws → (term : Term) (value : Value) → is_trimmed (data_type_of term) ≡ true → Fits term value → trimmed (spelled value) ≡ spelled value
trimmed-as-it-is laws term value is f = own (data_type_of term) refl is
  where
    go : (data_type : DataType) → is_trimmed (Some data_type) ≡ true → value_of data_type (spelled value) ≡ Some value → trimmed (spelled value) ≡ spelled value
    go data_types.I k back = sym (identifier-trimmed (spelled value) value back)
    go data_types.C k back = sym (code-trimmed (spelled value) value back)
    go data_types.T k back = absurd (false≢true k)
    go data_types.A k back = absurd (false≢true k)
    go data_types.Q k back = absurd (false≢true k)
    go data_types.P k back = absurd (false≢true k)
    go data_types.D k back = absurd (false≢true k)
    go data_types.B k back = absurd (false≢true k)

    own : (o : Option DataType) → data_type_of term ≡ o → is_trimmed o ≡ true → trimmed (spelled value) ≡ spelled value
    own None e k = absurd (false≢true k)
    own (Some data_type) e k = go f.data_type (ap (λ l. is_trimmed (Some l)) (one-type term f.data_type data_type f.typed e)
        ∙ k) (laws.values f.data_type f.text value f.read)

-- a day is read back without dashes
day-back : Laws → (term : Term) (value : Value) (f : Fits term value) → f.data_type ≡ data_types.D → meaning.plain_date (writing.plain_date value) ≡ Some value
day-back laws term value f data_type =
    let w = day-value laws.are_days f.data_type f.text value data_type f.read in
    ap (λ v. meaning.plain_date (writing.plain_date v)) (sym w.2) ∙ (day-read laws.days w.0 w.1 ∙ ap Some w.2)

as-day : Laws → (term : Term) (es : List Entry) (c : Context) (value : Value) → is_day (data_type_of term) ≡ true → Fits term value →
    ReadsAs forms.PlainDate term es c value
as-day laws term es c value is f =
    let back = day-back laws term value f (one-type term f.data_type data_types.D f.typed (day-type (data_type_of term) is)) in
    record {
      parsed = ap (λ v. record { term = term; value = v } ∷ []) back;
      full = not-blank (writing.plain_date value) meaning.plain_date value blank-day back;
    }

-- ---- forms that have a type of their own

as-typed : Laws → (data_type : DataType) (term : Term) (es : List Entry) (c : Context) (value : Value) → is_of_type data_type value ≡ true → Fits term value →
    ReadsAs (forms.Typed data_type) term es c value
as-typed laws data_type term es c value is f =
    let same : f.data_type ≡ data_type = sym (own-data_type f.data_type f.text value f.read) ∙ data_type-of data_type value is in
    record {
      parsed = ap (λ v. record { term = term; value = v } ∷ [])
          (subst (λ l. value_of l (spelled value) ≡ Some value) same (laws.values f.data_type f.text value f.read));
      full = full-model laws.values term value f;
    }

as-typed-day : Laws → (term : Term) (es : List Entry) (c : Context) (value : Value) → is_of_type data_types.D value ≡ true → Fits term value →
    ReadsAs forms.TypedPlainDate term es c value
as-typed-day laws term es c value is f =
    let back = day-back laws term value f (sym (own-data_type f.data_type f.text value f.read) ∙ data_type-of data_types.D value is) in
    record {
      parsed = ap (λ v. record { term = term; value = v } ∷ []) back;
      full = not-blank (writing.plain_date value) meaning.plain_date value blank-day back;
    }

-- a value of any type that is written so isn't blank
full-plain : Laws → (term : Term) (value : Value) → Fits term value → is_full (writing.plain_date value) ≡ true
full-plain laws term (values.Date day) f =
    not-blank (plain_day_text day) meaning.plain_date (values.Date day) blank-day
    (day-back laws term (values.Date day) f (sym (own-data_type f.data_type f.text (values.Date day) f.read)))
full-plain laws term (values.Text text) f = full-model laws.values term (values.Text text) f
full-plain laws term (values.Identifier text) f = full-model laws.values term (values.Identifier text) f
full-plain laws term (values.Code text) f = full-model laws.values term (values.Code text) f
full-plain laws term (values.Amount number) f = full-model laws.values term (values.Amount number) f
full-plain laws term (values.Quantity number) f = full-model laws.values term (values.Quantity number) f
full-plain laws term (values.Percent number) f = full-model laws.values term (values.Percent number) f
full-plain laws term (values.Base64 text) f = full-model laws.values term (values.Base64 text) f

-- Only a term that a user added stands in such a form.
pub modelled-untyped : (form : Form) (term : Term) → is_extension term ≡ false → is_typed (form_for form term) ≡ false
modelled-untyped form term own = go form (suits form term) refl
  where
    go : (g : Form) (b : Bool) → suits g term ≡ b → is_typed (elim b [ true ↦ g | false ↦ forms.Model ]) ≡ false
    go g false s = refl
    go forms.Model true s = refl
    go forms.PlainDate true s = refl
    go forms.DueDateTypeCode true s = refl
    go forms.CodedNote true s = refl
    go (forms.Typed data_type) true s = absurd (false≢true (sym own ∙ (both (is_extension term) (not (is_base64 data_type)) s).0))
    go forms.TypedPlainDate true s = absurd (false≢true (sym own ∙ s))

-- A value is read by the type of its term, or by that of the form.
abbrev pub IsRead : Form → Term → Type 0
IsRead form term = (is_extension term ≡ false) ⊎ (is_typed (form_for form term) ≡ true)

pub reads-as : Laws → (form : Form) (term : Term) (es : List Entry) (c : Context) (value : Value) → is_whole (form_for form term) ≡ true →
    is_extension term ≡ false → Fits term value
    → ReadsAs (form_for form term) term es c value
reads-as laws form term es c value whole own f = go (form_for form term) refl whole
  where
    go : (g : Form) → form_for form term ≡ g → is_whole g ≡ true → ReadsAs g term es c value
    go forms.Model e h = as-model laws.values term es c value own f
    go forms.PlainDate e h = as-day laws term es c value (form-day form term (suits form term) refl e) f
    go forms.DueDateTypeCode e h = absurd (false≢true h)
    go forms.CodedNote e h = absurd (false≢true h)
    go (forms.Typed data_type) e h = absurd (false≢true (sym (modelled-untyped form term own) ∙ ap is_typed e))
    go forms.TypedPlainDate e h = absurd (false≢true (sym (modelled-untyped form term own) ∙ ap is_typed e))

-- Whatever term it is of, such a value isn't blank.
pub whole-full : Laws → (form : Form) (term : Term) (es : List Entry) (c : Context) (value : Value) → is_whole (form_for form term) ≡ true → Fits term value →
    is_full (formed (form_for form term) es c value) ≡ true
whole-full laws form term es c value whole f = go (form_for form term) refl whole
  where
    go : (g : Form) → form_for form term ≡ g → is_whole g ≡ true → is_full (formed g es c value) ≡ true
    go forms.Model e h = full-model laws.values term value f
    go forms.PlainDate e h = (as-day laws term es c value (form-day form term (suits form term) refl e) f).full
    go forms.DueDateTypeCode e h = absurd (false≢true h)
    go forms.CodedNote e h = absurd (false≢true h)
    go (forms.Typed data_type) e h = full-model laws.values term value f
    go forms.TypedPlainDate e h = full-plain laws term value f

pub model-is : (form : Form) → is_model form ≡ true → form ≡ forms.Model
model-is forms.Model h = refl
model-is forms.PlainDate h = absurd (false≢true h)
model-is forms.DueDateTypeCode h = absurd (false≢true h)
model-is forms.CodedNote h = absurd (false≢true h)
model-is (forms.Typed data_type) h = absurd (false≢true h)
model-is forms.TypedPlainDate h = absurd (false≢true h)

-- ---- a code that another list spells

one-of-three : (text : List ℕ) → list_any (λ (image : Image). bytes_eq image.code text) images ≡ true →
    (codes "3" ≡ text) ⊎ ((codes "35" ≡ text) ⊎ (codes "432" ≡ text))
one-of-three text h = go (bytes_eq (codes "3") text) (bytes_eq (codes "35") text) (bytes_eq (codes "432") text) refl refl refl h
  where
    go : (a b c : Bool) → bytes_eq (codes "3") text ≡ a → bytes_eq (codes "35") text ≡ b → bytes_eq (codes "432") text ≡ c → (a || (b || (c || false))) ≡ true
        → (codes "3" ≡ text) ⊎ ((codes "35" ≡ text) ⊎ (codes "432" ≡ text))
    go true b c e f g k = inl ((bytes_eq-Decides (codes "3") text).0 e)
    go false true c e f g k = inr (inl ((bytes_eq-Decides (codes "35") text).0 f))
    go false false true e f g k = inr (inr ((bytes_eq-Decides (codes "432") text).0 g))
    go false false false e f g k = absurd (false≢true k)

as-image : (term : Term) (es : List Entry) (c : Context) (value : Value) → is_imaged value ≡ true → ReadsAs forms.DueDateTypeCode term es c value
unfolding is_white_space
as-image term es c (values.Code text) h = elim (one-of-three text h) [
  | inl e ↦ subst (λ x. ReadsAs forms.DueDateTypeCode term es c (values.Code x)) e (record { parsed = refl; full = refl })
  | inr m ↦ elim m [
    | inl e ↦ subst (λ x. ReadsAs forms.DueDateTypeCode term es c (values.Code x)) e (record { parsed = refl; full = refl })
    | inr e ↦ subst (λ x. ReadsAs forms.DueDateTypeCode term es c (values.Code x)) e (record { parsed = refl; full = refl })
  ]
]
as-image term es c (values.Text text) h = absurd (false≢true h)
as-image term es c (values.Identifier text) h = absurd (false≢true h)
as-image term es c (values.Amount number) h = absurd (false≢true h)
as-image term es c (values.Quantity number) h = absurd (false≢true h)
as-image term es c (values.Percent number) h = absurd (false≢true h)
as-image term es c (values.Date day) h = absurd (false≢true h)
as-image term es c (values.Base64 text) h = absurd (false≢true h)

-- ---- notes, with a subject code or without one

plain-note : (text : List ℕ) → is_coded_note text ≡ false → meaning.note_of text ≡ meaning.plain_note text
plain-note [] h = refl
plain-note (first ∷ []) h = refl
plain-note (first ∷ (a ∷ [])) h = refl
plain-note (first ∷ (a ∷ (b ∷ []))) h = refl
plain-note (first ∷ (a ∷ (b ∷ (c ∷ [])))) h = refl
plain-note (first ∷ (a ∷ (b ∷ (c ∷ (last ∷ text))))) h = go ((first == 35) && (last == 35)) (list_all meaning.is_subject_character (a ∷ b ∷ c ∷ []) &&
    not (is_blank text)) h
  where
    go : (x y : Bool) → (x && y) ≡ false
        → (elim x [
          | true ↦ elim y [ true ↦ meaning.coded (a ∷ b ∷ c ∷ []) text | false ↦ meaning.plain_note (first ∷ (a ∷ (b ∷ (c ∷ (last ∷ text))))) ]
          | false ↦ meaning.plain_note (first ∷ (a ∷ (b ∷ (c ∷ (last ∷ text)))))
        ])
        ≡ meaning.plain_note (first ∷ (a ∷ (b ∷ (c ∷ (last ∷ text)))))
    go false y k = refl
    go true false k = refl
    go true true k = absurd (false≢true (sym k))

coded-note : (code text : List ℕ) → is_subject code ≡ true → is_blank text ≡ false → meaning.note_of (35 ∷ (code ++ (35 ∷ text))) ≡ meaning.coded code text
coded-note [] text h k = absurd (false≢true h)
coded-note (a ∷ []) text h k = absurd (false≢true h)
coded-note (a ∷ (b ∷ [])) text h k = absurd (false≢true h)
coded-note (a ∷ (b ∷ (c ∷ (d ∷ code)))) text h k = absurd (false≢true h)
coded-note (a ∷ (b ∷ (c ∷ []))) text h k =
    (λ i. elim (h i && not (k i)) [ true ↦ meaning.coded (a ∷ b ∷ c ∷ []) text | false ↦ meaning.plain_note (35 ∷ (a ∷ (b ∷ (c ∷ (35 ∷ text))))) ])

by-its-type : ReadsBack → (term : Term) (value : Value) → is_extension term ≡ false → Fits term value → by_type term (spelled value) ≡ Some value
by-its-type law term value own f = ap (λ x. option_and_then (λ data_type. value_of data_type (spelled value)) x) (modelled-type term f.data_type f.typed own) ∙
    law f.data_type f.text value f.read

-- A note is read as it: no subject code is in front and it hasn't the form of one behind a code, or one is in front that is
-- one by its form.
abbrev pub IsNote : List Entry → Context → Value → Type 0
IsNote es c value =
    ((value_in es meaning.subject_code c ≡ None) × (is_coded_note (spelled value) ≡ false))
    ⊎ ((code : Value) × ((value_in es meaning.subject_code c ≡ Some code) × ((is_subject (spelled code) ≡ true) × Fits meaning.subject_code code)))

as-note : ReadsBack → (term : Term) (es : List Entry) (c : Context) (value : Value) → term ≡ meaning.note → IsNote es c value → Fits term value →
    ReadsAs forms.CodedNote term es c value
unfolding is_white_space
as-note law term es c value is (inl (none, plain)) f =
    let model = as-model law term es c value (ap is_extension is) f in
    let string : formed forms.CodedNote es c value ≡ spelled value = ap (λ o. writing.coded_note o (spelled value)) none in
    record {
      parsed = ap meaning.note_of string ∙ (plain-note (spelled value) plain ∙ (ap (λ t. record { term = t; value = by_type t (spelled value) } ∷ []) (sym is)
          ∙ (model.parsed ∙ ap (λ o. record { term = term; value = Some value } ∷ elim o [
            | None ↦ []
            | Some code ↦ record { term = meaning.subject_code; value = Some code } ∷ []
          ]) (sym none))));
      full = ap is_full string ∙ model.full;
    }
as-note law term es c value is (inr (code, (at, (subject, fits)))) f =
    let model = as-model law term es c value (ap is_extension is) f in
    let string : formed forms.CodedNote es c value ≡ 35 ∷ (spelled code ++ (35 ∷ spelled value)) = ap (λ o. writing.coded_note o (spelled value)) at in
    record {
      parsed = ap meaning.note_of string ∙ (coded-note (spelled code) (spelled value) subject (not-true (is_blank (spelled value)) model.full)
          ∙ ((λ i. record { term = sym is i; value = by_type (sym is i) (spelled value) } ∷ (record {
            term = meaning.subject_code;
            value =
                by_type meaning.subject_code (spelled code);
          } ∷ []))
          ∙ ((λ i. record { term = term; value = by-its-type law term value (ap is_extension is) f i } ∷ (record {
            term = meaning.subject_code;
            value =
                by-its-type law meaning.subject_code code refl fits i;
          } ∷ []))
          ∙ ap (λ o. record { term = term; value = Some value } ∷ elim o [ None ↦ [] | Some v ↦ record { term = meaning.subject_code; value = Some v } ∷ [] ])
          (sym at))));
      full = ap is_full string;
    }

-- a row of that form has the term of notes
pub note-term : (form : Form) (term : Term) (b : Bool) → suits form term ≡ b → (elim b [ true ↦ form | false ↦ forms.Model ]) ≡ forms.CodedNote →
    term ≡ meaning.note
note-term forms.CodedNote term true s e = same_term_is term meaning.note s
note-term forms.CodedNote term false s e = absurd (let k : forms.Model ≡ forms.CodedNote = e in cc)
note-term forms.PlainDate term true s e = absurd (let k : forms.PlainDate ≡ forms.CodedNote = e in cc)
note-term forms.PlainDate term false s e = absurd (let k : forms.Model ≡ forms.CodedNote = e in cc)
note-term forms.Model term true s e = absurd (let k : forms.Model ≡ forms.CodedNote = e in cc)
note-term forms.Model term false s e = absurd (let k : forms.Model ≡ forms.CodedNote = e in cc)
note-term forms.DueDateTypeCode term true s e = absurd (let k : forms.DueDateTypeCode ≡ forms.CodedNote = e in cc)
note-term forms.DueDateTypeCode term false s e = absurd (let k : forms.Model ≡ forms.CodedNote = e in cc)
note-term (forms.Typed data_type) term true s e = absurd (let k : forms.Typed data_type ≡ forms.CodedNote = e in cc)
note-term (forms.Typed data_type) term false s e = absurd (let k : forms.Model ≡ forms.CodedNote = e in cc)
note-term forms.TypedPlainDate term true s e = absurd (let k : forms.TypedPlainDate ≡ forms.CodedNote = e in cc)
note-term forms.TypedPlainDate term false s e = absurd (let k : forms.Model ≡ forms.CodedNote = e in cc)

-- a value that is written in the form is read as it
abbrev pub IsBack : List Entry → Form → Context → Value → Type 0
IsBack es form c value = (is_read_back form value ≡ true) × (form ≡ forms.CodedNote → IsNote es c value)

-- one that is written whole, by the type of its term
pub whole-back : (es : List Entry) (form : Form) (c : Context) (value : Value) → is_whole form ≡ true → is_of_one_term form ≡ true → IsBack es form c value
whole-back es forms.Model c value h k = (refl, λ e. absurd (let z : forms.Model ≡ forms.CodedNote = e in cc))
whole-back es forms.PlainDate c value h k = (refl, λ e. absurd (let z : forms.PlainDate ≡ forms.CodedNote = e in cc))
whole-back es forms.DueDateTypeCode c value h k = absurd (false≢true h)
whole-back es forms.CodedNote c value h k = absurd (false≢true h)
whole-back es (forms.Typed data_type) c value h k = absurd (false≢true k)
whole-back es forms.TypedPlainDate c value h k = absurd (false≢true k)

pub back-as : Laws → (form : Form) (term : Term) (es : List Entry) (c : Context) (value : Value) → IsBack es (form_for form term) c value → IsRead form term →
    Fits term value
    → ReadsAs (form_for form term) term es c value
back-as laws form term es c value back read f = go (form_for form term) refl back
  where
    modelled : form_for form term ≡ forms.Model → IsRead form term → is_extension term ≡ false
    modelled e (inl own) = own
    modelled e (inr typed) = absurd (false≢true (sym (ap is_typed e) ∙ typed))

    go : (g : Form) → form_for form term ≡ g → IsBack es g c value → ReadsAs g term es c value
    go forms.Model e h = as-model laws.values term es c value (modelled e read) f
    go forms.PlainDate e h = as-day laws term es c value (form-day form term (suits form term) refl e) f
    go forms.DueDateTypeCode e h = as-image term es c value h.0
    go forms.CodedNote e h = as-note laws.values term es c value (note-term form term (suits form term) refl e) (h.1 refl) f
    go (forms.Typed data_type) e h = as-typed laws data_type term es c value h.0 f
    go forms.TypedPlainDate e h = as-typed-day laws term es c value h.0 f

-- Whatever term it is of, such a value isn't blank.
pub back-full : Laws → (form : Form) (term : Term) (es : List Entry) (c : Context) (value : Value) → IsBack es (form_for form term) c value → Fits term value →
    is_full (formed (form_for form term) es c value) ≡ true
back-full laws form term es c value back f = go (form_for form term) refl back
  where
    go : (g : Form) → form_for form term ≡ g → IsBack es g c value → is_full (formed g es c value) ≡ true
    go forms.Model e h = full-model laws.values term value f
    go forms.PlainDate e h = (as-day laws term es c value (form-day form term (suits form term) refl e) f).full
    go forms.DueDateTypeCode e h = (as-image term es c value h.0).full
    go forms.CodedNote e h = (as-note laws.values term es c value (note-term form term (suits form term) refl e) (h.1 refl) f).full
    go (forms.Typed data_type) e h = full-model laws.values term value f
    go forms.TypedPlainDate e h = full-plain laws term value f

-- what a row whose form has a type takes is read back
pub typed-back : (es : List Entry) (form : Form) (c : Context) (value : Value) → is_typed form ≡ true → of_form form value ≡ Some value → IsBack es form c value
typed-back es form c value typed own = (reads form typed own, λ e. absurd (false≢true (sym (ap is_typed e) ∙ typed)))
  where
    passed : (b : Bool) → (elim b [ true ↦ Some value | false ↦ None ]) ≡ Some value → b ≡ true
    passed true k = refl
    passed false k = absurd (let z : ◌≡◌ {A = Option Value} None (Some value) = k in cc)

    reads : (f : Form) → is_typed f ≡ true → of_form f value ≡ Some value → is_read_back f value ≡ true
    reads forms.Model t k = absurd (false≢true t)
    reads forms.PlainDate t k = absurd (false≢true t)
    reads forms.DueDateTypeCode t k = absurd (false≢true t)
    reads forms.CodedNote t k = absurd (false≢true t)
    reads (forms.Typed data_type) t k = passed (is_of_type data_type value) k
    reads forms.TypedPlainDate t k = passed (is_of_type data_types.D value) k

-- what is said beside a value is its subject code
pub record IsCodeSaid (form : Form) (es : List Entry) (c : Context) (parsed : ParsedValue) : Type 0 where
  pub code : Value
  pub at : value_in es meaning.subject_code c ≡ Some code
  pub is : record { term = meaning.subject_code; value = Some code } ≡ parsed
  pub form_is : form ≡ forms.CodedNote

pub of-code-parsed : (form : Form) (es : List Entry) (c : Context) (parsed : ParsedValue) → Among parsed (code_said form es c) → IsCodeSaid form es c parsed
of-code-parsed forms.Model es c parsed a = absurd a
of-code-parsed forms.PlainDate es c parsed a = absurd a
of-code-parsed forms.DueDateTypeCode es c parsed a = absurd a
of-code-parsed (forms.Typed data_type) es c parsed a = absurd a
of-code-parsed forms.TypedPlainDate es c parsed a = absurd a
of-code-parsed forms.CodedNote es c parsed a = go (value_in es meaning.subject_code c) refl a
  where
    go : (o : Option Value) → value_in es meaning.subject_code c ≡ o →
        Among parsed (elim o [ None ↦ [] | Some code ↦ record { term = meaning.subject_code; value = Some code } ∷ [] ])
        → IsCodeSaid forms.CodedNote es c parsed
    go None e m = absurd m
    go (Some code) e (inl is) = record { code = code; at = e; is = is; form_is = refl }
    go (Some code) e (inr z) = absurd z

pub whole-uncoded : (form : Form) (es : List Entry) (c : Context) → is_whole form ≡ true → code_said form es c ≡ []
whole-uncoded forms.Model es c h = refl
whole-uncoded forms.PlainDate es c h = refl
whole-uncoded forms.DueDateTypeCode es c h = absurd (false≢true h)
whole-uncoded forms.CodedNote es c h = absurd (false≢true h)
whole-uncoded (forms.Typed data_type) es c h = refl
whole-uncoded forms.TypedPlainDate es c h = refl
