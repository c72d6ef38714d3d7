-- What a value is written as is read as that value.
use Rattle.std.proofs.Common.{◌≡◌, ℕ, ◌+◌, ◌/◌, ◌%◌, ◌^◌, ◌<◌, zero, suc, Bool, true, false, ◌&&◌, List, [], ◌∷◌, ◌++◌, Option, Some, None, refl, sym, ap, ◌∙◌}
use Rattle.std.proofs.Common.{subst, ◌⊎◌, inl, inr, arith}
use Rattle.std.specs.Prelude.{nat_le, option_map, bytes_eq, if◌then◌else◌}
use Rattle.std.specs.List.{list_all}
use Rattle.std.specs.Char.{is_ascii_digit}
use Rattle.std.specs.Str.{chars, IsUtf8}
use Rattle.std.proofs.lemmas.Str.{encodes-chars}
use Rattle.std.proofs.lemmas.Option.{same_Some}
use Rattle.std.proofs.lemmas.Slice.Eq.{bytes_eq-Decides}
use Rattle.std.proofs.lemmas.Bool.{false≢true}
use Rattle.std.proofs.lemmas.Bool.Decides.{nat_tests}
use Rattle.std.proofs.lemmas.List.Folds.{list_all-append}
use Rattle.inv_base.specs.Characters.{is_char, is_white_space}
use Rattle.code_lists.specs.Codes.{is_code}
use Rattle.inv_decimal.specs.Number.{ScaledDecimal, IsScaled}
use Rattle.inv_decimal.specs.CivilDay.{CivilDay, IsDay}
use Rattle.inv_decimal.specs.Digits.{last_digits}
use Rattle.inv_decimal.specs.WrittenNumber.{read_scaled, scaled_text, IsWritten, IsSign, IsTail, are_number_parts}
use Rattle.inv_decimal.specs.WrittenDay.{read_dashed_day, dashed_day_text}
use Rattle.term_table.specs.declared.terms.DataType.{DataType}
use Rattle.term_table.specs.declared.terms.DataType.TheVariants as data_types
use Rattle.term_table.proofs.GroupLemmas.{both}
use Rattle.inv_terms.specs.declared.values.Value.{Value}
use Rattle.inv_terms.specs.declared.values.Value.TheVariants as values
use Rattle.inv_terms.specs.Values.{is_blank, without_leading, without_trailing, trimmed, text_of, identifier_in, identifier_of, code_of, value_by, value_of}
use Rattle.inv_terms.specs.Values.{spelled}
use Rattle.inv_terms.proofs.TrimLemmas.{HasEnds, trimmed-between}
use lib.Utf8.{encodes}

-- ---- a trimmed text stays as it is

append-nil : (xs : List ℕ) → xs ++ [] ≡ xs
append-nil [] = refl
append-nil (x ∷ xs) = ap (λ z. x ∷ z) (append-nil xs)

trimmed-kept : (text : List ℕ) → HasEnds text → trimmed text ≡ text
trimmed-kept text h = ap trimmed (sym (append-nil text)) ∙ trimmed-between [] text [] refl refl h

bool_cases : (b : Bool) → (b ≡ true) ⊎ (b ≡ false)
bool_cases true = inl refl
bool_cases false = inr refl

leading-first : (text : List ℕ) (c : ℕ) (rest : List ℕ) → without_leading text ≡ c ∷ rest → is_white_space c ≡ false
leading-first [] c rest h = cc
leading-first (x ∷ text) c rest h = elim (bool_cases (is_white_space x)) [
  | inl white ↦ leading-first text c rest (sym (ap (λ b. if b then without_leading text else x ∷ text) white) ∙ h)
  | inr black ↦
      let e : x ∷ text ≡ c ∷ rest = sym (ap (λ b. if b then without_leading text else x ∷ text) black) ∙ h in
      let same : x ≡ c = cc in
      ap is_white_space (sym same) ∙ black
]

trailing-none : (text : List ℕ) → without_trailing text ≡ [] → is_blank text ≡ true
trailing-none [] h = refl
trailing-none (c ∷ text) h = elim (bool_cases (is_blank (c ∷ text))) [
  | inl blank ↦ blank
  | inr some ↦ absurd (let e : c ∷ without_trailing text ≡ [] = sym (ap (λ b. if b then [] else c ∷ without_trailing text) some) ∙ h in cc)
]

first_black : (b : Bool) → (b && true) ≡ false → b ≡ false
first_black true k = k
first_black false k = refl

trailing-last : (text init : List ℕ) (l : ℕ) → without_trailing text ≡ init ++ l ∷ [] → is_white_space l ≡ false
trailing-last [] [] l h = cc
trailing-last [] (i ∷ init) l h = cc
trailing-last (c ∷ text) [] l h = elim (bool_cases (is_blank (c ∷ text))) [
  | inl blank ↦ absurd (let e : [] ≡ l ∷ [] = sym (ap (λ b. if b then [] else c ∷ without_trailing text) blank) ∙ h in cc)
  | inr some ↦
      let e : c ∷ without_trailing text ≡ l ∷ [] = sym (ap (λ b. if b then [] else c ∷ without_trailing text) some) ∙ h in
      let same : c ≡ l = cc in
      let none : without_trailing text ≡ [] = cc in
      ap is_white_space (sym same) ∙ first_black (is_white_space c) (sym (ap (λ b. is_white_space c && b) (trailing-none text none)) ∙ some)
]
trailing-last (c ∷ text) (i ∷ init) l h = elim (bool_cases (is_blank (c ∷ text))) [
  | inl blank ↦ absurd (let e : [] ≡ i ∷ (init ++ l ∷ []) = sym (ap (λ b. if b then [] else c ∷ without_trailing text) blank) ∙ h in cc)
  | inr some ↦
      let e : c ∷ without_trailing text ≡ i ∷ (init ++ l ∷ []) = sym (ap (λ b. if b then [] else c ∷ without_trailing text) some) ∙ h in
      let later : without_trailing text ≡ init ++ l ∷ [] = cc in
      trailing-last text init l later
]

trailing-first : (text : List ℕ) (c : ℕ) (rest : List ℕ) → without_trailing text ≡ c ∷ rest →
    ((d : ℕ) (more : List ℕ) → text ≡ d ∷ more → is_white_space d ≡ false) → is_white_space c ≡ false
trailing-first [] c rest h k = cc
trailing-first (x ∷ text) c rest h k = elim (bool_cases (is_blank (x ∷ text))) [
  | inl blank ↦ absurd (let e : [] ≡ c ∷ rest = sym (ap (λ b. if b then [] else x ∷ without_trailing text) blank) ∙ h in cc)
  | inr some ↦
      let e : x ∷ without_trailing text ≡ c ∷ rest = sym (ap (λ b. if b then [] else x ∷ without_trailing text) some) ∙ h in
      let same : x ≡ c = cc in
      ap is_white_space (sym same) ∙ k x text refl
]

trimmed-ends : (text : List ℕ) → HasEnds (trimmed text)
trimmed-ends text = record {
  first = λ c rest e. trailing-first (without_leading text) c rest e (leading-first text);
  last = λ init l e. trailing-last (without_leading text) init l e;
}

trimmed-twice : (text : List ℕ) → trimmed (trimmed text) ≡ trimmed text
trimmed-twice text = trimmed-kept (trimmed text) (trimmed-ends text)

-- ---- what passes of a text, passes of a trimmed one

leading-passes : (p : ℕ → Bool) (text : List ℕ) → list_all p text ≡ true → list_all p (without_leading text) ≡ true
leading-passes p [] h = refl
leading-passes p (c ∷ text) h = elim (bool_cases (is_white_space c)) [
  | inl white ↦ rw white (leading-passes p text (both (p c) _ h).1)
  | inr black ↦ rw black h
]

trailing-passes : (p : ℕ → Bool) (text : List ℕ) → list_all p text ≡ true → list_all p (without_trailing text) ≡ true
trailing-passes p [] h = refl
trailing-passes p (c ∷ text) h = elim (bool_cases (is_blank (c ∷ text))) [
  | inl blank ↦ rw blank refl
  | inr some ↦ let k = both (p c) _ h in rw (some, k.0) (trailing-passes p text k.1)
]

trimmed-passes : (p : ℕ → Bool) (text : List ℕ) → list_all p text ≡ true → list_all p (trimmed text) ≡ true
trimmed-passes p text h = trailing-passes p (without_leading text) (leading-passes p text h)

-- ---- the characters of numbers and days

-- a digit, a sign, a point
is_plain : ℕ → Bool
is_plain c = nat_le 43 c && nat_le c 57

plain-char : (c : ℕ) → is_plain c ≡ true → is_char c ≡ true
unfolding is_plain is_char
plain-char c h = grind (arith, nat_tests)

plain-black : (c : ℕ) → is_plain c ≡ true → is_white_space c ≡ false
unfolding is_plain is_white_space
plain-black c h = grind (arith, nat_tests)

digit-plain : (c : ℕ) → is_ascii_digit c ≡ true → is_plain c ≡ true
unfolding is_plain
digit-plain c h = grind (arith, nat_tests)

all-from : (p q : ℕ → Bool) → ((c : ℕ) → p c ≡ true → q c ≡ true) → (text : List ℕ) → list_all p text ≡ true → list_all q text ≡ true
all-from p q f [] h = refl
all-from p q f (c ∷ text) h = let k = both (p c) _ h in rw (f c k.0) (all-from p q f text k.1)

plain-ends : (text : List ℕ) → list_all is_plain text ≡ true → HasEnds text
plain-ends text h = record {
  first = λ c rest e. plain-black c (both (is_plain c) _ (ap (list_all is_plain) (sym e) ∙ h)).0;
  last = λ init l e. plain-black l (both (is_plain l) true
      (both (list_all is_plain init) _ (sym (list_all-append is_plain init (l ∷ [])) ∙ (ap (list_all is_plain) (sym e) ∙ h))).1).0;
}

all_pair : (p : ℕ → Bool) (a b : List ℕ) → list_all p a ≡ true → list_all p b ≡ true → list_all p (a ++ b) ≡ true
all_pair p a b h k = list_all-append p a b ∙ rw (h, k) refl

sign-plain : (sign : List ℕ) (negative : Bool) → IsSign sign negative → list_all is_plain sign ≡ true
unfolding is_plain
sign-plain sign negative IsSign.no_sign = refl
sign-plain sign negative IsSign.plus = refl
sign-plain sign negative IsSign.minus = refl

tail-plain : (tail digits : List ℕ) → IsTail tail digits → list_all is_plain digits ≡ true → list_all is_plain tail ≡ true
unfolding is_plain
tail-plain tail digits IsTail.no_point h = refl
tail-plain tail digits (IsTail.point d) h = h

parts_digits : (whole fraction : List ℕ) → are_number_parts whole fraction ≡ true → list_all is_ascii_digit (whole ++ fraction) ≡ true
parts_digits whole fraction h = (both _ _ (both _ _ (both _ _ h).0).0).0

written-plain : (text : List ℕ) (s : ScaledDecimal) → IsWritten text s → list_all is_plain text ≡ true
written-plain text s w =
    let digits = both (list_all is_ascii_digit w.whole) _ (sym (list_all-append is_ascii_digit w.whole w.fraction) ∙ parts_digits w.whole w.fraction w.digits)
    in
    ap (list_all is_plain) w.spelled ∙ all_pair is_plain w.sign (w.whole ++ w.tail) (sign-plain w.sign w.negative w.signed)
    (all_pair is_plain w.whole w.tail (all-from is_ascii_digit is_plain digit-plain w.whole digits.0)
    (tail-plain w.tail w.fraction w.ended (all-from is_ascii_digit is_plain digit-plain w.fraction digits.1)))

last_digits-plain : (k n : ℕ) → list_all is_plain (last_digits k n) ≡ true
unfolding last_digits is_plain
last_digits-plain zero n = refl
last_digits-plain (suc k) n =
    let d = n / 10 ^ k in
    let low : d % 10 < 10 = omega arith in
    let a : nat_le 43 (48 + d % 10) ≡ true = grind (arith, nat_tests) in
    let b : nat_le (48 + d % 10) 57 ≡ true = grind (arith, nat_tests) in
    rw (a, b) (last_digits-plain k n)

day-plain : (d : CivilDay) → list_all is_plain (dashed_day_text d) ≡ true
unfolding dashed_day_text is_plain
day-plain d =
    all_pair is_plain (last_digits 4 d.year) _ (last_digits-plain 4 d.year)
    (all_pair is_plain (last_digits 2 d.month) _ (last_digits-plain 2 d.month) (last_digits-plain 2 d.day))

-- ---- values

taken : {X Y : Type 0} (f : X → Y) (o : Option X) (y : Y) → option_map f o ≡ Some y → (x : X) × (o ≡ Some x) × (f x ≡ y)
taken f None y h = absurd (let k : None ≡ Some y = h in cc)
taken f (Some x) y h = (x, refl, same_Some _ _ h)

identifier_in-is : (text t : List ℕ) → identifier_in text ≡ Some t → text ≡ t
identifier_in-is [] t h = absurd (let k : None ≡ Some t = h in cc)
identifier_in-is (c ∷ text) t h = same_Some _ _ h

when : {X : Type 0} (b : Bool) (x y : X) → (if b then Some x else None) ≡ Some y → (b ≡ true) × (x ≡ y)
when true x y h = (refl, same_Some _ _ h)
when false x y h = absurd (let k : None ≡ Some y = h in cc)

unless : {X : Type 0} (b : Bool) (x y : X) → (if b then None else Some x) ≡ Some y → (b ≡ false) × (x ≡ y)
unless true x y h = absurd (let k : None ≡ Some y = h in cc)
unless false x y h = (refl, same_Some _ _ h)

-- a text that reads as a value, and is written as it stands, or trimmed
record Reads (data_type : DataType) (text : List ℕ) (value : Value) : Type 0 where
  chars_alone : list_all is_char text ≡ true
  by_type : value_by data_type text ≡ Some value

reads-from : (data_type : DataType) (text : List ℕ) (value : Value) → value_of data_type text ≡ Some value → Reads data_type text value
unfolding value_of
reads-from data_type text value h = go (list_all is_char text) refl h
  where
    go : (b : Bool) → list_all is_char text ≡ b → (if b then value_by data_type text else None) ≡ Some value → Reads data_type text value
    go true e k = record { chars_alone = e; by_type = k }
    go false e k = absurd (let u : None ≡ Some value = k in cc)

reads-to : (data_type : DataType) (text : List ℕ) (value : Value) → list_all is_char text ≡ true → value_by data_type text ≡ Some value →
    value_of data_type text ≡ Some value
unfolding value_of
reads-to data_type text value h k = rw h k

module _ (scaled : (s : ScaledDecimal) → IsScaled s → read_scaled (scaled_text s) ≡ Some s)
    (grammar : (text : List ℕ) (s : ScaledDecimal) → read_scaled text ≡ Some s → IsWritten text s)
    (in_range : (cs : List ℕ) (s : ScaledDecimal) → read_scaled cs ≡ Some s → IsScaled s)
    (dashed : (d : CivilDay) → IsDay d → read_dashed_day (dashed_day_text d) ≡ Some d)
    (days : (cs : List ℕ) (d : CivilDay) → read_dashed_day cs ≡ Some d → IsDay d) where
  number-back : (text : List ℕ) (s : ScaledDecimal) → read_scaled text ≡ Some s → (list_all is_char (scaled_text s) ≡ true) ×
      (read_scaled (trimmed (scaled_text s)) ≡ Some s)
  number-back text s h =
      let back = scaled s (in_range text s h) in
      let plain = written-plain (scaled_text s) s (grammar (scaled_text s) s back) in
      (all-from is_plain is_char plain-char (scaled_text s) plain, ap read_scaled (trimmed-kept (scaled_text s) (plain-ends (scaled_text s) plain)) ∙ back)

  day-back : (text : List ℕ) (d : CivilDay) → read_dashed_day text ≡ Some d → (list_all is_char (dashed_day_text d) ≡ true) ×
      (read_dashed_day (trimmed (dashed_day_text d)) ≡ Some d)
  day-back text d h =
      let back = dashed d (days text d h) in
      let plain = day-plain d in (
        all-from is_plain is_char plain-char (dashed_day_text d) plain,
        ap read_dashed_day (trimmed-kept (dashed_day_text d) (plain-ends (dashed_day_text d) plain)) ∙ back,
      )

  text-back : (text t : List ℕ) → list_all is_char text ≡ true → text_of text ≡ Some t → (list_all is_char t ≡ true) × (text_of t ≡ Some t)
  text-back text t h k =
      let u = unless (is_blank text) text t k in
      (ap (list_all is_char) (sym u.1) ∙ h, ap text_of (sym u.1) ∙ k)

  identifier-back : (text t : List ℕ) → list_all is_char text ≡ true → identifier_of text ≡ Some t → (list_all is_char t ≡ true) × (identifier_of t ≡ Some t)
  identifier-back text t h k =
      let same = identifier_in-is (trimmed text) t k in
      let twice : trimmed t ≡ trimmed text = ap trimmed (sym same) ∙ trimmed-twice text in
      (ap (list_all is_char) (sym same) ∙ trimmed-passes is_char text h, ap identifier_in twice ∙ k)

  code-back : (text t : List ℕ) → list_all is_char text ≡ true → code_of text ≡ Some t → (list_all is_char t ≡ true) × (code_of t ≡ Some t)
  code-back text t h k =
      let u = when (is_code (trimmed text)) (trimmed text) t k in
      let twice : trimmed t ≡ trimmed text = ap trimmed (sym u.1) ∙ trimmed-twice text in
      (ap (list_all is_char) (sym u.1) ∙ trimmed-passes is_char text h, ap (λ x. if is_code x then Some x else None) twice ∙ k)

  -- one type: what reads back, and how it is written
  back : (data_type : DataType) (text : List ℕ) (value : Value) → Reads data_type text value → value_of data_type (spelled value) ≡ Some value
  back data_types.T text value r =
      let w = taken values.Text (text_of text) value r.by_type in
      let u = text-back text w.0 r.chars_alone w.1 in
      subst (λ v. value_of data_types.T (spelled v) ≡ Some v) w.2 (reads-to data_types.T w.0 (values.Text w.0) u.0 (ap (option_map values.Text) u.1))
  back data_types.I text value r =
      let w = taken values.Identifier (identifier_of text) value r.by_type in
      let u = identifier-back text w.0 r.chars_alone w.1 in
      subst (λ v. value_of data_types.I (spelled v) ≡ Some v) w.2 (reads-to data_types.I w.0 (values.Identifier w.0) u.0 (ap (option_map values.Identifier)
      u.1))
  back data_types.C text value r =
      let w = taken values.Code (code_of text) value r.by_type in
      let u = code-back text w.0 r.chars_alone w.1 in
      subst (λ v. value_of data_types.C (spelled v) ≡ Some v) w.2 (reads-to data_types.C w.0 (values.Code w.0) u.0 (ap (option_map values.Code) u.1))
  back data_types.A text value r =
      let w = taken values.Amount (read_scaled (trimmed text)) value r.by_type in
      let u = number-back (trimmed text) w.0 w.1 in
      subst (λ v. value_of data_types.A (spelled v) ≡ Some v) w.2
      (reads-to data_types.A (scaled_text w.0) (values.Amount w.0) u.0 (ap (option_map values.Amount) u.1))
  back data_types.Q text value r =
      let w = taken values.Quantity (read_scaled (trimmed text)) value r.by_type in
      let u = number-back (trimmed text) w.0 w.1 in
      subst (λ v. value_of data_types.Q (spelled v) ≡ Some v) w.2
      (reads-to data_types.Q (scaled_text w.0) (values.Quantity w.0) u.0 (ap (option_map values.Quantity) u.1))
  back data_types.P text value r =
      let w = taken values.Percent (read_scaled (trimmed text)) value r.by_type in
      let u = number-back (trimmed text) w.0 w.1 in
      subst (λ v. value_of data_types.P (spelled v) ≡ Some v) w.2
      (reads-to data_types.P (scaled_text w.0) (values.Percent w.0) u.0 (ap (option_map values.Percent) u.1))
  back data_types.D text value r =
      let w = taken values.Date (read_dashed_day (trimmed text)) value r.by_type in
      let u = day-back (trimmed text) w.0 w.1 in
      subst (λ v. value_of data_types.D (spelled v) ≡ Some v) w.2
      (reads-to data_types.D (dashed_day_text w.0) (values.Date w.0) u.0 (ap (option_map values.Date) u.1))
  back data_types.B text value r =
      let w = taken values.Base64 (text_of text) value r.by_type in
      let u = text-back text w.0 r.chars_alone w.1 in
      subst (λ v. value_of data_types.B (spelled v) ≡ Some v) w.2 (reads-to data_types.B w.0 (values.Base64 w.0) u.0 (ap (option_map values.Base64) u.1))

  pub read_back : (data_type : DataType) (text : List ℕ) (value : Value) → value_of data_type text ≡ Some value → value_of data_type (spelled value)
      ≡ Some value
  read_back data_type text value h = back data_type text value (reads-from data_type text value h)

-- ---- texts in buffers

pub same_text : (x y : List ℕ) → IsUtf8 x → IsUtf8 y → bytes_eq x y ≡ bytes_eq (chars x) (chars y)
same_text x y u v = elim (bool_cases (bytes_eq x y)) [
  | inl same ↦ same ∙ sym ((bytes_eq-Decides (chars x) (chars y)).1 (ap chars ((bytes_eq-Decides x y).0 same)))
  | inr apart ↦ apart ∙ sym (go (bytes_eq (chars x) (chars y)) refl apart)
]
  where
    go : (b : Bool) → bytes_eq (chars x) (chars y) ≡ b → bytes_eq x y ≡ false → bytes_eq (chars x) (chars y) ≡ false
    go false e apart = e
    go true e apart =
        let same : x ≡ y = sym (encodes-chars x u) ∙ (ap encodes ((bytes_eq-Decides (chars x) (chars y)).0 e) ∙ encodes-chars y v) in
        absurd (false≢true (sym apart ∙ (bytes_eq-Decides x y).1 same))
