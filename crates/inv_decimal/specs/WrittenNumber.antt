-- The written form of a number, as characters: an optional sign, digits and an optional point, as xs:decimal has it (XML
-- Schema Part 2, 3.2.3), but with at most 18 digits on each side of the point.
use Rattle.std.specs.Prelude.{◌≡◌, ℕ, ◌-◌, ◌*◌, ◌/◌, ◌%◌, ◌^◌, List, [], ◌∷◌, ◌++◌, length, take, ℤ, pos, neg_ℤ, Bool, true, false, Option, Some, None, nat_lt}
use Rattle.std.specs.Prelude.{nat_le, ◌==◌, ◌&&◌, if◌then◌else◌, unsigned_abs, decimal}
use Rattle.std.specs.Option.{option_map}
use Rattle.std.specs.Int.{is_negative}
use Rattle.std.specs.List.{list_all, before_first, after_first}
use Rattle.std.specs.Char.{is_ascii_digit}
use Rattle.std.specs.Fmt.{sign_text}
use Rattle.std.specs.Str.Parse.{digits_value, starts_with_minus, without_leading_sign}
use Rattle.inv_decimal.specs.Number.{unit, ScaledDecimal}
use Rattle.inv_decimal.specs.Digits.{last_digits, without_leading_zeros, without_trailing_zeros}

abbrev pub is_point : ℕ → Bool
is_point c = c == 46

-- the characters behind the sign: before the first point, and behind it
abbrev pub whole_part : List ℕ → List ℕ
whole_part cs = before_first is_point (without_leading_sign cs)

abbrev pub fraction_part : List ℕ → List ℕ
fraction_part cs = after_first is_point (without_leading_sign cs)

-- digits alone, at least one; behind leading zeros at most 18 in front of the point, and at most 18 behind it
abbrev pub are_number_parts : List ℕ → List ℕ → Bool
are_number_parts whole fraction =
    list_all is_ascii_digit (whole ++ fraction) && nat_lt 0 (length (whole ++ fraction))
    && nat_le (length (without_leading_zeros whole)) 18
    && nat_le (length fraction) 18

abbrev pub with_sign : Bool → ℕ → ℤ
with_sign negative n = if negative then neg_ℤ (pos n) else pos n

-- how many units they write, if they have that form
unfoldable pub written_units : List ℕ → List ℕ → Option ℕ
written_units whole fraction =
    if are_number_parts whole fraction
    then Some (digits_value 10 (whole ++ fraction) * 10 ^ (18 - length fraction))
    else None

-- the number that a text writes, if it has the form
unfoldable pub read_scaled : List ℕ → Option ScaledDecimal
read_scaled cs =
    option_map (λ units. record {
      value = with_sign (starts_with_minus cs) units;
      digits = length (fraction_part cs);
    }) (written_units (whole_part cs) (fraction_part cs))

unfoldable pub read_decimal : List ℕ → Option ℤ
read_decimal cs = option_map (λ s. s.value) (read_scaled cs)

-- the 18 digits behind the point
abbrev pub fraction_digits : ℤ → List ℕ
fraction_digits z = last_digits 18 (unsigned_abs z % unit)

abbrev pub behind_point : List ℕ → List ℕ
behind_point [] = []
behind_point (c ∷ cs) = 46 ∷ c ∷ cs

-- the sign, the whole part and those fraction digits
abbrev pub number_text : ℤ → List ℕ → List ℕ
number_text z fraction =
    sign_text (is_negative z) ++ (decimal (unsigned_abs z / unit) ++ behind_point fraction)

-- how a number is printed: without zeros at the end, or with exactly its digits
unfoldable pub decimal_text : ℤ → List ℕ
decimal_text z = number_text z (without_trailing_zeros (fraction_digits z))

unfoldable pub scaled_text : ScaledDecimal → List ℕ
scaled_text s = number_text s.value (take s.digits (fraction_digits s.value))

-- ---- the form as a grammar, which a law ties to `read_scaled`

-- a sign, and whether it is a minus
pub data IsSign : List ℕ → Bool → Type 0 where
  no_sign : IsSign [] false
  plus : IsSign (43 ∷ []) false
  minus : IsSign (45 ∷ []) true

-- what follows the whole part, and the digits in it
pub data IsTail : List ℕ → List ℕ → Type 0 where
  no_point : IsTail [] []
  point : (digits : List ℕ) → IsTail (46 ∷ digits) digits

-- the text is a sign, digits and perhaps a point and digits, and writes the number
pub record IsWritten (text : List ℕ) (s : ScaledDecimal) : Type 0 where
  pub sign : List ℕ
  pub whole : List ℕ
  pub tail : List ℕ
  pub fraction : List ℕ
  pub negative : Bool
  pub signed : IsSign sign negative
  pub ended : IsTail tail fraction
  pub digits : are_number_parts whole fraction ≡ true
  pub spelled : text ≡ sign ++ (whole ++ tail)
  pub worth : s ≡ record {
    value = with_sign negative (digits_value 10 (whole ++ fraction) * 10 ^ (18 - length fraction));
    digits = length fraction;
  }
