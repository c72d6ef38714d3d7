-- What strings say fits the terms that it is said of.
use Rattle.std.proofs.Common.{◌≡◌, ℕ, ◌+◌, ◌/◌, ◌%◌, ◌^◌, ◌<◌, zero, suc, Bool, true, false, ◌&&◌, List, [], ◌∷◌, ◌++◌, Option, Some, None, refl, sym, ap, ◌∙◌}
use Rattle.std.proofs.Common.{subst, arith}
use Rattle.std.specs.Prelude.{nat_le, ◌==◌, not, codes, option_map, option_and_then, bytes_eq}
use Rattle.std.specs.List.{list_all}
use Rattle.std.proofs.lemmas.Option.{same_Some}
use Rattle.std.proofs.lemmas.Bool.{false≢true}
use Rattle.std.proofs.lemmas.Bool.Decides.{nat_tests}
use Rattle.std.proofs.lemmas.List.Elements.{All-nil, All-cons}
use Rattle.std.proofs.lemmas.List.Folds.{list_all-append}
use Rattle.inv_base.specs.Characters.{is_char, is_white_space}
use Rattle.inv_decimal.specs.CivilDay.{CivilDay, IsDay}
use Rattle.inv_decimal.specs.Digits.{last_digits}
use Rattle.inv_decimal.specs.WrittenDay.{read_plain_day, read_dashed_day, dashed_day_text}
use Rattle.term_table.specs.declared.terms.DataType.{DataType}
use Rattle.term_table.specs.declared.terms.DataType.TheVariants as data_types
use Rattle.term_table.specs.declared.terms.Term.{Term}
use Rattle.term_table.specs.SemanticModel.{terms, is_extension}
use Rattle.term_table.specs.Rows.{is_base64, HasType, modelled, added, data_type_of}
use Rattle.term_table.proofs.GroupLemmas.{both}
use Rattle.inv_terms.specs.declared.values.Value.{Value}
use Rattle.inv_terms.specs.declared.values.Value.TheVariants as values
use Rattle.inv_terms.specs.Listing.{Fits}
use Rattle.inv_terms.specs.Values.{is_blank, trimmed, value_of}
use Rattle.inv_terms.proofs.TrimLemmas.{HasEnds, trimmed-between}
use Rattle.bind_rows.specs.declared.rows.Form.{Form}
use Rattle.bind_rows.specs.declared.rows.Form.TheVariants as forms
use Rattle.bind_meaning.specs.Values.{ParsedValue, by_type, plain_date, Image, images, image_among, due_date_type, subject_code, note, plain_note, coded}
use Rattle.bind_meaning.specs.Values.{is_subject_character, note_behind, note_of, is_term, is_day, suits, parsed_in, parsed}
use Rattle.reading_laws.specs.ParsedValues.{FitsIts, AllFit}

same-number : (a b : ℕ) → (a == b) ≡ true → a ≡ b
same-number a b h = grind (arith, nat_tests)

-- ---- by the type of the term

reads-by : (term : Term) (string : List ℕ) (value : Value) (data_type : Option DataType) → data_type_of term ≡ data_type
    → option_and_then (λ l. value_of l string) data_type ≡ Some value → Fits term value
reads-by term string value None e h = absurd (let k : None ≡ Some value = h in cc)
reads-by term string value (Some data_type) e h = record { data_type = data_type; text = string; typed = modelled e; read = h }

by_type-fits : (term : Term) (string : List ℕ) (value : Value) → by_type term string ≡ Some value → Fits term value
by_type-fits term string value h = reads-by term string value (data_type_of term) refl h

-- ---- dates

date-is : (data_type : Option DataType) → is_day data_type ≡ true → data_type ≡ Some data_types.D
date-is (Some data_types.D) h = refl
date-is None h = absurd (false≢true h)
date-is (Some data_types.T) h = absurd (false≢true h)
date-is (Some data_types.I) h = absurd (false≢true h)
date-is (Some data_types.C) h = absurd (false≢true h)
date-is (Some data_types.A) h = absurd (false≢true h)
date-is (Some data_types.Q) h = absurd (false≢true h)
date-is (Some data_types.P) h = absurd (false≢true h)
date-is (Some data_types.B) h = absurd (false≢true h)

-- a digit, a sign, a point
is_plain : ℕ → Bool
is_plain c = nat_le 43 c && nat_le c 57

plain-char : (c : ℕ) → is_plain c ≡ true → is_char c ≡ true
unfolding is_plain is_char
plain-char c h = grind (arith, nat_tests)

plain-black : (c : ℕ) → is_plain c ≡ true → is_white_space c ≡ false
unfolding is_plain is_white_space
plain-black c h = grind (arith, nat_tests)

plain-chars : (text : List ℕ) → list_all is_plain text ≡ true → list_all is_char text ≡ true
plain-chars [] h = refl
plain-chars (c ∷ text) h = let k = both (is_plain c) _ h in rw (plain-char c k.0) (plain-chars text k.1)

plain-ends : (text : List ℕ) → list_all is_plain text ≡ true → HasEnds text
plain-ends text h = record {
  first = λ c rest e. plain-black c (both (is_plain c) _ (ap (list_all is_plain) (sym e) ∙ h)).0;
  last = λ init l e. plain-black l (both (is_plain l) true
      (both (list_all is_plain init) _ (sym (list_all-append is_plain init (l ∷ [])) ∙ (ap (list_all is_plain) (sym e) ∙ h))).1).0;
}

all_pair : (p : ℕ → Bool) (a b : List ℕ) → list_all p a ≡ true → list_all p b ≡ true → list_all p (a ++ b) ≡ true
all_pair p a b h k = list_all-append p a b ∙ rw (h, k) refl

last_digits-plain : (k n : ℕ) → list_all is_plain (last_digits k n) ≡ true
unfolding last_digits is_plain
last_digits-plain zero n = refl
last_digits-plain (suc k) n =
    let d = n / 10 ^ k in
    let low : d % 10 < 10 = omega arith in
    let a : nat_le 43 (48 + d % 10) ≡ true = grind (arith, nat_tests) in
    let b : nat_le (48 + d % 10) 57 ≡ true = grind (arith, nat_tests) in
    rw (a, b) (last_digits-plain k n)

day-plain : (d : CivilDay) → list_all is_plain (dashed_day_text d) ≡ true
unfolding dashed_day_text is_plain
day-plain d =
    all_pair is_plain (last_digits 4 d.year) _ (last_digits-plain 4 d.year)
    (all_pair is_plain (last_digits 2 d.month) _ (last_digits-plain 2 d.month) (last_digits-plain 2 d.day))

append-nil : (xs : List ℕ) → xs ++ [] ≡ xs
append-nil [] = refl
append-nil (x ∷ xs) = ap (λ z. x ∷ z) (append-nil xs)

trimmed-kept : (text : List ℕ) → HasEnds text → trimmed text ≡ text
trimmed-kept text h = ap trimmed (sym (append-nil text)) ∙ trimmed-between [] text [] refl refl h

day-read : (d : CivilDay) → read_dashed_day (dashed_day_text d) ≡ Some d → value_of data_types.D (dashed_day_text d) ≡ Some (values.Date d)
unfolding value_of
day-read d back =
    let plain = day-plain d in
    rw (plain-chars _ plain) (ap (option_map values.Date) (ap read_dashed_day (trimmed-kept _ (plain-ends _ plain)) ∙ back))

taken : {X Y : Type 0} (f : X → Y) (o : Option X) (y : Y) → option_map f o ≡ Some y → (x : X) × (o ≡ Some x) × (f x ≡ y)
taken f None y h = absurd (let k : None ≡ Some y = h in cc)
taken f (Some x) y h = (x, refl, same_Some _ _ h)

some-if : {X : Type 0} (b : Bool) (o : Option X) (y : X) → (elim b [ true ↦ o | false ↦ None ]) ≡ Some y → o ≡ Some y
some-if true o y h = h
some-if false o y h = absurd (let k : None ≡ Some y = h in cc)

-- ---- codes of BT-8

ReadsCode : Image → Type 0
ReadsCode image = value_of data_types.C image.code ≡ Some (values.Code image.code)

code-fits : (term : Term) (image : Image) (value : Value) → data_type_of term ≡ Some data_types.C → value_of data_types.C image.code
    ≡ Some (values.Code image.code)
    → Some (values.Code image.code) ≡ Some value → Fits term value
code-fits term image value e read h =
    subst (Fits term) (same_Some _ _ h) (record { data_type = data_types.C; text = image.code; typed = modelled e; read = read })

image-step : (term : Term) (image : Image) (others : Option Value) (value : Value) (b : Bool) → data_type_of term ≡ Some data_types.C
    → value_of data_types.C image.code ≡ Some (values.Code image.code)
    → (others ≡ Some value → Fits term value) → (elim b [ true ↦ Some (values.Code image.code) | false ↦ others ]) ≡ Some value → Fits term value
image-step term image others value true e read more h = code-fits term image value e read h
image-step term image others value false e read more h = more h

reads-3 : value_of data_types.C (codes "3") ≡ Some (values.Code (codes "3"))
unfolding value_of is_char is_white_space
reads-3 = refl

reads-35 : value_of data_types.C (codes "35") ≡ Some (values.Code (codes "35"))
unfolding value_of is_char is_white_space
reads-35 = refl

reads-432 : value_of data_types.C (codes "432") ≡ Some (values.Code (codes "432"))
unfolding value_of is_char is_white_space
reads-432 = refl

images-fit : (term : Term) (string : List ℕ) (value : Value) → data_type_of term ≡ Some data_types.C → image_among images string ≡ Some value → Fits term value
images-fit term string value e h =
    image-step term (record { written = codes "5"; code = codes "3" }) _ value (bytes_eq (codes "5") string) e reads-3
    (image-step term (record { written = codes "29"; code = codes "35" }) _ value (bytes_eq (codes "29") string) e reads-35
    (image-step term (record { written = codes "72"; code = codes "432" }) None value (bytes_eq (codes "72") string) e reads-432
    (λ k. absurd (let l : None ≡ Some value = k in cc)))) h

due_date_term : (term : Term) → is_term 8 term ≡ true → data_type_of term ≡ Some data_types.C
unfolding terms
due_date_term term h =
    let k = both (term.number == 8) (term.part == 0) h in
    ap data_type_of (λ i. record { number = (same-number term.number 8 k.0) i; part = (same-number term.part 0 k.1) i })

-- ---- notes

one-fits : (term : Term) (value : Option Value) → ((v : Value) → value ≡ Some v → Fits term v) → AllFit (record { term = term; value = value } ∷ [])
one-fits term value h = All-cons FitsIts _ [] h (All-nil FitsIts)

plain-fits : (string : List ℕ) → AllFit (plain_note string)
plain-fits string = one-fits note (by_type note string) (by_type-fits note string)

coded-fits : (code text : List ℕ) → AllFit (coded code text)
coded-fits code text =
    All-cons FitsIts (record { term = note; value = by_type note text }) (record { term = subject_code; value = by_type subject_code code } ∷ [])
    (by_type-fits note text) (one-fits subject_code (by_type subject_code code) (by_type-fits subject_code code))

choice-fits : (b : Bool) (xs ys : List ParsedValue) → AllFit xs → AllFit ys → AllFit (elim b [ true ↦ xs | false ↦ ys ])
choice-fits true xs ys h k = h
choice-fits false xs ys h k = k

behind-fits : (string : List ℕ) (first a b c last : ℕ) (text : List ℕ) → AllFit (note_behind string first a b c last text)
behind-fits string first a b c last text =
    choice-fits ((first == 35) && (last == 35))
    (elim (list_all is_subject_character (a ∷ b ∷ c ∷ []) && not (is_blank text)) [ true ↦ coded (a ∷ b ∷ c ∷ []) text | false ↦ plain_note string ])
    (plain_note string)
    (choice-fits (list_all is_subject_character (a ∷ b ∷ c ∷ []) && not (is_blank text)) (coded (a ∷ b ∷ c ∷ []) text) (plain_note string)
    (coded-fits (a ∷ b ∷ c ∷ []) text) (plain-fits string)) (plain-fits string)

note-fits : (string : List ℕ) → AllFit (note_of string)
note-fits [] = plain-fits []
note-fits (first ∷ []) = plain-fits _
note-fits (first ∷ (a ∷ [])) = plain-fits _
note-fits (first ∷ (a ∷ (b ∷ []))) = plain-fits _
note-fits (first ∷ (a ∷ (b ∷ (c ∷ [])))) = plain-fits _
note-fits (first ∷ (a ∷ (b ∷ (c ∷ (last ∷ text))))) = behind-fits (first ∷ (a ∷ (b ∷ (c ∷ (last ∷ text))))) first a b c last text

-- ---- terms that a user added

not-true : (b : Bool) → not b ≡ true → b ≡ false
not-true true h = absurd (false≢true h)
not-true false h = refl

typed-fits : (data_type : DataType) (term : Term) (string : List ℕ) → suits (forms.Typed data_type) term ≡ true → (value : Value) → value_of data_type string
    ≡ Some value
    → Fits term value
typed-fits data_type term string h value read =
    let k = both (is_extension term) (not (is_base64 data_type)) h in
    record { data_type = data_type; text = string; typed = added k.0 (not-true (is_base64 data_type) k.1); read = read }

-- ---- each form

module _ (dashed : (d : CivilDay) → IsDay d → read_dashed_day (dashed_day_text d) ≡ Some d)
    (days : (cs : List ℕ) (d : CivilDay) → read_plain_day cs ≡ Some d → IsDay d) where
  date-fits : (term : Term) (string : List ℕ) (value : Value) → HasType term data_types.D → plain_date string ≡ Some value → Fits term value
  date-fits term string value e h =
      let w = taken values.Date (read_plain_day (trimmed string)) value (some-if (list_all is_char string) _ value h) in
      let read = day-read w.0 (dashed w.0 (days _ w.0 w.1)) in
      subst (Fits term) w.2 (record { data_type = data_types.D; text = dashed_day_text w.0; typed = e; read = read })

  suited-fits : (form : Form) (term : Term) (string : List ℕ) → suits form term ≡ true → AllFit (parsed_in form term string)
  suited-fits forms.Model term string h = one-fits term (by_type term string) (by_type-fits term string)
  suited-fits forms.PlainDate term string h = one-fits term (plain_date string) (λ v. date-fits term string v (modelled (date-is _ h)))
  suited-fits forms.DueDateTypeCode term string h = one-fits term (due_date_type string) (λ v. images-fit term (trimmed string) v (due_date_term term h))
  suited-fits forms.CodedNote term string h = note-fits string
  suited-fits (forms.Typed data_type) term string h = one-fits term (value_of data_type string) (typed-fits data_type term string h)
  suited-fits forms.TypedPlainDate term string h = one-fits term (plain_date string) (λ v. date-fits term string v (added h refl))

  form-fits : (form : Form) (term : Term) (string : List ℕ) (b : Bool) → suits form term ≡ b
      → AllFit (parsed_in (elim b [ true ↦ form | false ↦ forms.Model ]) term string)
  form-fits form term string true h = suited-fits form term string h
  form-fits form term string false h = suited-fits forms.Model term string refl

  pub parsed-fits : (form : Form) (term : Term) (string : List ℕ) → AllFit (parsed form term string)
  parsed-fits form term string = form-fits form term string (suits form term) refl
