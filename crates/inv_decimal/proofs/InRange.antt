-- What is read is in range.
use Rattle.std.proofs.Common.{◌≡◌, ℕ, ◌+◌, ◌-◌, ◌*◌, ◌^◌, ◌<◌, ◌≤◌, List, ◌++◌, length, take, drop, slice_index, ◌==◌, Bool, true, false, cond, nat_lt, nat_le}
use Rattle.std.proofs.Common.{◌&&◌, refl, sym, ap, subst, ◌∙◌, inl, inr, arith, Option, Some, None, ℤ, pos}
use Rattle.std.specs.Option.{option_map}
use Rattle.std.specs.List.{list_all}
use Rattle.std.specs.Char.{is_ascii_digit}
use Rattle.std.specs.Str.Parse.{digits_value, starts_with_minus}
use Rattle.std.proofs.Math.Nat.{one-le-pow}
use Rattle.std.proofs.lemmas.Nat.{mul-add-lt, row_fits}
use Rattle.std.proofs.lemmas.Int.{ints}
use Rattle.std.proofs.lemmas.Int.Digits.{digits_value-lt}
use Rattle.std.proofs.lemmas.Bool.{cases_eq}
use Rattle.std.proofs.lemmas.Bool.Decides.{nat_tests}
use Rattle.jiff.specs.Words.{days_in_month}
use Rattle.inv_decimal.specs.Number.{IsDecimal, ScaledDecimal, IsScaled}
use Rattle.inv_decimal.specs.Digits.{without_leading_zeros}
use Rattle.inv_decimal.specs.WrittenNumber.{whole_part, fraction_part, are_number_parts, with_sign, written_units, read_scaled, read_decimal}
use Rattle.inv_decimal.specs.CivilDay.{CivilDay, IsDay, is_day, day_of}
use Rattle.inv_decimal.specs.WrittenDay.{day_from, read_plain_day, read_dashed_day}
use Rattle.inv_decimal.proofs.NumberParts.{and_parts, AllDigits-from_list_all, digits_value-append, eighteen_digits, unused_power, units_are}
use Rattle.inv_decimal.proofs.ReadNumber.{is_scaled}
use Rattle.inv_decimal.proofs.Ascii.{all_of-append}
use Rattle.inv_decimal.proofs.ReadDay.{plain_is, plain_none}

None≢Some : {A : Type 0} {x : A} → None ≡ Some x → ⊥
None≢Some e = cc

le_from : (m n : ℕ) → nat_le m n ≡ true → m ≤ n
le_from m n e = grind (arith, nat_tests)

units_bound : (whole fraction : List ℕ) → are_number_parts whole fraction ≡ true → (length fraction ≤ 18) ×
    (digits_value 10 (whole ++ fraction) * 10 ^ (18 - length fraction) < 10 ^ 36)
units_bound whole fraction form =
    let four = and_parts (list_all is_ascii_digit (whole ++ fraction) && nat_lt 0 (length (whole ++ fraction)) &&
    nat_le (length (without_leading_zeros whole)) 18) (nat_le (length fraction) 18) form in
    let three = and_parts (list_all is_ascii_digit (whole ++ fraction) && nat_lt 0 (length (whole ++ fraction)))
    (nat_le (length (without_leading_zeros whole)) 18) four.0 in
    let two = and_parts (list_all is_ascii_digit (whole ++ fraction)) (nat_lt 0 (length (whole ++ fraction))) three.0 in
    let digits = all_of-append whole fraction two.0 in
    let short : length fraction ≤ 18 = le_from (length fraction) 18 four.1 in
    let low : digits_value 10 whole < 10 ^ 18 = eighteen_digits whole digits.0 (le_from (length (without_leading_zeros whole)) 18 three.1) in
    let rest : digits_value 10 fraction < 10 ^ length fraction = digits_value-lt 10 fraction (AllDigits-from_list_all fraction digits.1) in
    let value : digits_value 10 (whole ++ fraction) < 10 ^ length fraction * 10 ^ 18 =
    omega (arith, digits_value-append whole fraction, mul-add-lt (digits_value 10 whole) (10 ^ length fraction) (digits_value 10 fraction) (10 ^ 18) low rest)
    in
    let positive : 1 ≤ 10 ^ (18 - length fraction) = one-le-pow (18 - length fraction) 10 (omega arith) in
    let room : digits_value 10 (whole ++ fraction) * 10 ^ (18 - length fraction) + 10 ^ (18 - length fraction) ≤ 10 ^ length fraction * 10 ^ 18 * 10 ^
    (18 - length fraction) =
    row_fits (digits_value 10 (whole ++ fraction)) (10 ^ (18 - length fraction)) (10 ^ length fraction * 10 ^ 18) (10 ^ (18 - length fraction)) value
    (omega arith) in
    (short, omega (arith, ap (λ x. x * 10 ^ 18) (unused_power (length fraction) short)))

pub scaled_at : (g : ℕ → ScaledDecimal) (u : Option ℕ) (s : ScaledDecimal) → option_map g u ≡ Some s → (n : ℕ) × (Some n ≡ u) × (s ≡ g n)
scaled_at g None s e = absurd (None≢Some e)
scaled_at g (Some n) s e = (n, refl, cc)

pub scaled_in_range : (cs : List ℕ) (s : ScaledDecimal) → read_scaled cs ≡ Some s → IsScaled s
unfolding read_scaled
scaled_in_range cs s e =
    let read = scaled_at (λ n. record { value = with_sign (starts_with_minus cs) n; digits = length (fraction_part cs) })
    (written_units (whole_part cs) (fraction_part cs)) s e in
    let are = units_are (whole_part cs) (fraction_part cs) read.0 read.1 in
    let bound = units_bound (whole_part cs) (fraction_part cs) are.0 in
    subst IsScaled (sym read.2) (is_scaled (whole_part cs) (fraction_part cs) (starts_with_minus cs) read.0 _ read.1
    (omega (arith, are.1, bound.1)) bound.0 refl)

decimal_at : (o : Option ScaledDecimal) (z : ℤ) → option_map (λ s. s.value) o ≡ Some z → (s : ScaledDecimal) × (o ≡ Some s) × (s.value ≡ z)
decimal_at None z e = absurd (None≢Some e)
decimal_at (Some s) z e = (s, refl, cc)

pub decimal_in_range : (cs : List ℕ) (z : ℤ) → read_decimal cs ≡ Some z → IsDecimal z
unfolding read_decimal
decimal_in_range cs z e =
    let read = decimal_at (read_scaled cs) z e in
    subst IsDecimal read.2 (scaled_in_range cs read.0 read.1).in_range

-- ---- days

pub IsDay-from_is_day : (d : CivilDay) → is_day d ≡ true → IsDay d
IsDay-from_is_day d e =
    let six = and_parts _ (nat_le d.day (days_in_month (pos d.year) d.month)) e in
    let five = and_parts _ (nat_le 1 d.day) six.0 in
    let four = and_parts _ (nat_le d.month 12) five.0 in
    let three = and_parts _ (nat_le 1 d.month) four.0 in
    let two = and_parts (nat_le 1 d.year) (nat_le d.year 9999) three.0 in
    record {
      in_era = le_from 1 d.year two.0;
      exists = (
        (omega (arith, ints), omega (arith, ints, le_from d.year 9999 two.1)),
        (omega (arith, ints, le_from 1 d.month three.1), omega (arith, ints, le_from d.month 12 four.1)),
        (omega (arith, ints, le_from 1 d.day five.1), omega (arith, ints, le_from d.day (days_in_month (pos d.year) d.month) six.1)),
      );
    }

day_at : (b : Bool) (d v : CivilDay) → cond b (Some d) None ≡ Some v → (b ≡ true) × (d ≡ v)
day_at true d v e = (refl, cc)
day_at false d v e = absurd (None≢Some e)

day_of_in_range : (y m d : ℕ) (v : CivilDay) → day_of y m d ≡ Some v → IsDay v
day_of_in_range y m d v e =
    let t : CivilDay = record { year = y; month = m; day = d } in
    let is = day_at (is_day (record { year = y; month = m; day = d })) (record { year = y; month = m; day = d }) v e in
    subst IsDay is.1 (IsDay-from_is_day (record { year = y; month = m; day = d }) is.0)

from_at : (b : Bool) (o : Option CivilDay) (v : CivilDay) → cond b o None ≡ Some v → o ≡ Some v
from_at true o v e = e
from_at false o v e = absurd (None≢Some e)

day_from_in_range : (y m d : List ℕ) (v : CivilDay) → day_from y m d ≡ Some v → IsDay v
unfolding day_from
day_from_in_range y m d v e =
    day_of_in_range (digits_value 10 y) (digits_value 10 m) (digits_value 10 d) v (from_at (list_all is_ascii_digit (y ++ (m ++ d))) _ v e)

pub plain_in_range : (cs : List ℕ) (v : CivilDay) → read_plain_day cs ≡ Some v → IsDay v
plain_in_range cs v e =
    elim (cases_eq (length cs) 8) as (λ _. IsDay v) [
      | inl len ↦ day_from_in_range _ _ _ v (plain_is cs len ∙ e)
      | inr other ↦ absurd (None≢Some (plain_none cs other ∙ e))
    ]

pub dashed_in_range : (cs : List ℕ) (v : CivilDay) → read_dashed_day cs ≡ Some v → IsDay v
unfolding read_dashed_day
dashed_in_range cs v e =
    day_from_in_range (take 4 cs) (take 2 (drop 5 cs)) (drop 8 cs) v (from_at ((length cs == 10) && (slice_index cs 4 == 45) && (slice_index cs 7 == 45)) _ v e)
