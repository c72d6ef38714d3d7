-- worked rows, by computing
use Rattle.std.proofs.Common.{◌≡◌, ◌*◌, ◌^◌, ◌-◌, pos, neg_ℤ, refl, Some, None, Ok, Err}
use Rattle.std.specs.Prelude.{codes}
use Rattle.inv_decimal.specs.Arithmetic.{sum_of, product_of, quotient_of, whole_quotient_of, remainder_of, rounded, rounded_down, rounded_up, nearest_hundredth}
use Rattle.inv_decimal.specs.WrittenNumber.{written_units, read_scaled, read_decimal, decimal_text, scaled_text}
use Rattle.inv_decimal.specs.WrittenDay.{day_from, read_plain_day, read_dashed_day, dashed_day_text}
use Rattle.inv_decimal.specs.declared.fault.DecFault.TheVariants.{Overflow as OutOfRange, DivisionByZero}
use Rattle.std.specs.Fmt.{digits}
use Rattle.inv_decimal.specs.Digits.{last_digits, without_trailing_zeros}

r1 : sum_of (pos (999_999_999_999_999_999 * 10 ^ 18)) (pos (10 ^ 18)) ≡ Err (record {})
unfolding sum_of
r1 = refl

r2 : product_of (pos 1) (pos (5 * 10 ^ 17)) ≡ Ok (pos 0)
unfolding product_of
r2 = refl

r3 : quotient_of (pos (10 ^ 18)) (pos 1) ≡ Err OutOfRange
unfolding quotient_of
r3 = refl

r4 : quotient_of (pos (10 ^ 18)) (pos (3 * 10 ^ 18)) ≡ Ok (pos 333_333_333_333_333_333)
unfolding quotient_of
r4 = refl

r5 : remainder_of (neg_ℤ (pos (7 * 10 ^ 18))) (pos (2 * 10 ^ 18)) ≡ Ok (neg_ℤ (pos (10 ^ 18)))
unfolding remainder_of
r5 = refl

r6 : whole_quotient_of (neg_ℤ (pos (7 * 10 ^ 18))) (pos (2 * 10 ^ 18)) ≡ Ok (neg_ℤ (pos (3 * 10 ^ 18)))
unfolding whole_quotient_of
r6 = refl

r7 : rounded (pos (25 * 10 ^ 17)) ≡ Ok (pos (3 * 10 ^ 18))
unfolding rounded
r7 = refl

r8 : rounded (neg_ℤ (pos (25 * 10 ^ 17))) ≡ Ok (neg_ℤ (pos (2 * 10 ^ 18)))
unfolding rounded
r8 = refl

r9 : quotient_of (pos (10 ^ 18)) (pos 0) ≡ Err DivisionByZero
unfolding quotient_of
r9 = refl

r10 : rounded_down (neg_ℤ (pos (999_999_999_999_999_999_500_000_000_000_000_000))) ≡ Err (record {})
unfolding rounded_down
r10 = refl

r11 : rounded_up (neg_ℤ (pos (25 * 10 ^ 17))) ≡ Ok (neg_ℤ (pos (2 * 10 ^ 18)))
unfolding rounded_up
r11 = refl

h1 : nearest_hundredth (pos (5 * 10 ^ 15)) ≡ Ok (pos (10 ^ 16))
unfolding nearest_hundredth
h1 = refl

h2 : nearest_hundredth (pos (5 * 10 ^ 15 - 1)) ≡ Ok (pos 0)
unfolding nearest_hundredth
h2 = refl

h3 : nearest_hundredth (neg_ℤ (pos (5 * 10 ^ 15))) ≡ Ok (neg_ℤ (pos (10 ^ 16)))
unfolding nearest_hundredth
h3 = refl

h4 : nearest_hundredth (neg_ℤ (pos (2_014_999_999_999_999_999))) ≡ Ok (neg_ℤ (pos (201 * 10 ^ 16)))
unfolding nearest_hundredth
h4 = refl

h5 : nearest_hundredth (pos (10 ^ 36 - 5 * 10 ^ 15)) ≡ Err (record {})
unfolding nearest_hundredth
h5 = refl

h6 : nearest_hundredth (neg_ℤ (pos (4 * 10 ^ 15))) ≡ Ok (pos 0)
unfolding nearest_hundredth
h6 = refl

s1 : read_scaled (codes "007.50") ≡ Some (record { value = pos (75 * 10 ^ 17); digits = 2 })
unfolding read_scaled written_units
s1 = refl

s1' : scaled_text (record { value = pos (75 * 10 ^ 17); digits = 2 }) ≡ codes "7.50"
unfolding scaled_text digits last_digits
s1' = refl

s2 : read_scaled (codes "-0.0") ≡ Some (record { value = pos 0; digits = 1 })
unfolding read_scaled written_units
s2 = refl

s3 : read_scaled (codes "+.5") ≡ Some (record { value = pos (5 * 10 ^ 17); digits = 1 })
unfolding read_scaled written_units
s3 = refl

s4 : read_scaled (codes "1.") ≡ Some (record { value = pos (10 ^ 18); digits = 0 })
unfolding read_scaled written_units
s4 = refl

s4' : scaled_text (record { value = pos (10 ^ 18); digits = 0 }) ≡ codes "1"
unfolding scaled_text digits last_digits
s4' = refl

s5 : decimal_text (neg_ℤ (pos (75 * 10 ^ 17))) ≡ codes "-7.5"
unfolding decimal_text digits last_digits without_trailing_zeros
s5 = refl

n1 : read_decimal (codes ".") ≡ None
unfolding read_decimal read_scaled written_units
n1 = refl

n2 : read_decimal (codes "1e3") ≡ None
unfolding read_decimal read_scaled written_units
n2 = refl

n3 : read_decimal (codes "1111111111111111111") ≡ None
unfolding read_decimal read_scaled written_units
n3 = refl

n4 : read_decimal (codes "0000111111111111111111.1234567890123456789") ≡ None
unfolding read_decimal read_scaled written_units
n4 = refl

n5 : read_decimal (codes "-0000111111111111111111.123456789012345678") ≡ Some (neg_ℤ (pos 111_111_111_111_111_111_123_456_789_012_345_678))
unfolding read_decimal read_scaled written_units
n5 = refl

n6 : read_decimal (codes "1.2.3") ≡ None
unfolding read_decimal read_scaled written_units
n6 = refl

n7 : read_decimal (codes "") ≡ None
unfolding read_decimal read_scaled written_units
n7 = refl

n8 : read_decimal (codes "+-1") ≡ None
unfolding read_decimal read_scaled written_units
n8 = refl

d1 : read_dashed_day (codes "2024-02-29") ≡ Some (record { year = 2024; month = 2; day = 29 })
unfolding read_dashed_day day_from
d1 = refl

d2 : read_dashed_day (codes "2023-02-29") ≡ None
unfolding read_dashed_day day_from
d2 = refl

d3 : read_dashed_day (codes "0000-01-01") ≡ None
unfolding read_dashed_day day_from
d3 = refl

d4 : read_plain_day (codes "19000228") ≡ Some (record { year = 1900; month = 2; day = 28 })
unfolding read_plain_day day_from
d4 = refl

d5 : read_plain_day (codes "19000229") ≡ None
unfolding read_plain_day day_from
d5 = refl

d6 : dashed_day_text (record { year = 987; month = 2; day = 9 }) ≡ codes "0987-02-09"
unfolding dashed_day_text last_digits
d6 = refl
