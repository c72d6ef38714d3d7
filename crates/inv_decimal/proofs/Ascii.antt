-- The written forms are ASCII, so a text's characters are read as its bytes are.
use Rattle.std.proofs.Common.{◌≡◌, ℕ, ◌<◌, ◌≢◌, List, [], ◌∷◌, ◌++◌, length, get_or, true, ◌&&◌, refl, sym, ap, ◌∙◌, subst, inl, inr, arith, Option, Some, None}
use Rattle.std.proofs.Common.{ℤ}
use Rattle.std.specs.Option.{option_map}
use Rattle.std.specs.List.{list_all, before_first, after_first, position_or_len}
use Rattle.std.specs.Char.{is_ascii_digit}
use Rattle.std.specs.Str.{IsUtf8, IsAscii, chars}
use Rattle.std.specs.Str.Parse.{without_leading_sign}
use Rattle.std.proofs.lemmas.Fmt.{IsAscii-from_digits}
use Rattle.std.proofs.lemmas.Str.{IsAscii-append}
use Rattle.std.proofs.lemmas.Str.Ascii.{IsAscii-nil, IsAscii-cons}
use Rattle.std.proofs.lemmas.List.{take_all}
use Rattle.std.proofs.lemmas.List.Sums.{split_at_first, passes_at_first}
use Rattle.std.proofs.lemmas.Bool.{cases_lt, cases_eq}
use Rattle.std.proofs.lemmas.Bool.Decides.{nat_tests}
use Rattle.inv_decimal.specs.WrittenNumber.{is_point, whole_part, fraction_part, written_units, read_scaled, read_decimal}
use Rattle.inv_decimal.specs.Number.{ScaledDecimal}
use Rattle.inv_decimal.proofs.NumberParts.{AllDigits-from_list_all, and_parts, units_are}
use Rattle.inv_decimal.proofs.Characters.{read-chars}

pub IsAscii-at : (bs cs : List ℕ) → bs ≡ cs → IsAscii bs → IsAscii cs
IsAscii-at bs cs e h = subst IsAscii e h

pub IsAscii-digits : (ds : List ℕ) → list_all is_ascii_digit ds ≡ true → IsAscii ds
IsAscii-digits ds all = IsAscii-from_digits ds (AllDigits-from_list_all ds all)

pub all_of-append : (xs ys : List ℕ) → list_all is_ascii_digit (xs ++ ys) ≡ true → (list_all is_ascii_digit xs ≡ true) × (list_all is_ascii_digit ys ≡ true)
all_of-append [] ys e = (refl, e)
all_of-append (x ∷ xs) ys e =
    let parts = and_parts (is_ascii_digit x) (list_all is_ascii_digit (xs ++ ys)) e in
    let rest = all_of-append xs ys parts.1 in
    (ap (λ b. b && list_all is_ascii_digit xs) parts.0 ∙ rest.0, rest.1)

point_small : (c : ℕ) → is_point c ≡ true → c < 128
point_small c e = grind (arith, nat_tests)

pub behind_minus : (c : ℕ) (cs : List ℕ) → c ≡ 45 → without_leading_sign (c ∷ cs) ≡ cs
behind_minus c cs e = ap (λ x. without_leading_sign (x ∷ cs)) e

pub behind_plus : (c : ℕ) (cs : List ℕ) → c ≡ 43 → without_leading_sign (c ∷ cs) ≡ cs
behind_plus c cs e = ap (λ x. without_leading_sign (x ∷ cs)) e

pub no_sign : (c : ℕ) (cs : List ℕ) → c ≢ 45 → c ≢ 43 → without_leading_sign (c ∷ cs) ≡ c ∷ cs
no_sign c cs h k = grind (arith, nat_tests)

-- what stands round the first point
IsAscii-round_point : (cs : List ℕ) → IsAscii (before_first is_point cs) → IsAscii (after_first is_point cs) → IsAscii cs
IsAscii-round_point cs before behind =
    elim (cases_lt (position_or_len is_point cs) (length cs)) as (λ _. IsAscii cs) [
      | inl less ↦ (let point : get_or cs (position_or_len is_point cs) 0 < 128 = point_small _ (passes_at_first is_point cs 0 less) in
          IsAscii-at _ cs (sym (split_at_first is_point cs 0 less))
          (IsAscii-append (before_first is_point cs) _ before (IsAscii-cons _ (after_first is_point cs) point behind)))
      | inr more ↦ IsAscii-at _ cs (take_all (position_or_len is_point cs) cs more) before
    ]

-- what stands behind a sign
IsAscii-signed : (cs : List ℕ) → IsAscii (without_leading_sign cs) → IsAscii cs
IsAscii-signed [] h = IsAscii-nil
IsAscii-signed (c ∷ cs) h =
    elim (cases_eq c 45) as (λ _. IsAscii (c ∷ cs)) [
      | inl minus ↦ IsAscii-cons c cs (omega arith) (IsAscii-at _ cs (behind_minus c cs minus) h)
      | inr other ↦ elim (cases_eq c 43) as (λ _. IsAscii (c ∷ cs)) [
        | inl plus ↦ IsAscii-cons c cs (omega arith) (IsAscii-at _ cs (behind_plus c cs plus) h)
        | inr neither ↦ IsAscii-at _ (c ∷ cs) (no_sign c cs other neither) h
      ]
    ]

some_units : (g : ℕ → ScaledDecimal) (u : Option ℕ) (s : ScaledDecimal) → option_map g u ≡ Some s → (n : ℕ) × (Some n ≡ u)
some_units g None s e = cc
some_units g (Some n) s e = (n, refl)

IsAscii-parts : (whole fraction : List ℕ) (n : ℕ) → Some n ≡ written_units whole fraction → IsAscii whole × IsAscii fraction
IsAscii-parts whole fraction n e =
    let form = (units_are whole fraction n e).0 in
    let digits = all_of-append whole fraction (and_parts (list_all is_ascii_digit (whole ++ fraction)) _ (and_parts _ _ (and_parts _ _ form).0).0).0 in
    (IsAscii-digits whole digits.0, IsAscii-digits fraction digits.1)

pub IsAscii-read_scaled : (cs : List ℕ) (s : ScaledDecimal) → read_scaled cs ≡ Some s → IsAscii cs
unfolding read_scaled
IsAscii-read_scaled cs s e =
    let read = some_units _ (written_units (whole_part cs) (fraction_part cs)) s e in
    let parts = IsAscii-parts (whole_part cs) (fraction_part cs) read.0 read.1 in
    IsAscii-signed cs (IsAscii-round_point (without_leading_sign cs) parts.0 parts.1)

some_scaled : (o : Option ScaledDecimal) (z : ℤ) → option_map (λ s. s.value) o ≡ Some z → (s : ScaledDecimal) × (o ≡ Some s)
some_scaled None z e = cc
some_scaled (Some s) z e = (s, refl)

pub IsAscii-read_decimal : (cs : List ℕ) (z : ℤ) → read_decimal cs ≡ Some z → IsAscii cs
unfolding read_decimal
IsAscii-read_decimal cs z e =
    let read = some_scaled (read_scaled cs) z e in
    IsAscii-read_scaled cs read.0 read.1

pub read_scaled-chars : (bs : List ℕ) → IsUtf8 bs → read_scaled (chars bs) ≡ read_scaled bs
read_scaled-chars bs utf8 = read-chars read_scaled IsAscii-read_scaled bs utf8
