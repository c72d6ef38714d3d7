-- What each operation on decimal numbers gives, in units of 10^-18: XPath 2.0 Functions and Operators, 6.2 and 6.4, at
-- xs:decimal. What is out of range is a fault.
use Rattle.std.specs.Prelude.{ℕ, ◌*◌, ◌^◌, ℤ, pos, neg_ℤ, ◌+ℤ◌, ◌-ℤ◌, ◌*ℤ◌, Bool, Result, Ok, Err, nat_lt, if◌then◌else◌, ◌==◌, ◌+◌, ◌/◌, int_div, unsigned_abs}
use Rattle.std.specs.Int.{int_div_euclid, is_negative}
use Rattle.inv_decimal.specs.Number.{unit}
use Rattle.inv_decimal.specs.WrittenNumber.{with_sign}
use Rattle.inv_decimal.specs.declared.fault.Overflow.{Overflow}
use Rattle.inv_decimal.specs.declared.fault.DivisionByZero.{DivisionByZero as ZeroDivisor}
use Rattle.inv_decimal.specs.declared.fault.DecFault.{DecFault}
use Rattle.inv_decimal.specs.declared.fault.DecFault.TheVariants.{Overflow as OutOfRange, DivisionByZero}

-- the units of a half
abbrev pub half : ℕ
half = 5 * 10 ^ 17

-- there is such a number
abbrev pub is_decimal : ℤ → Bool
is_decimal z = nat_lt (unsigned_abs z) (10 ^ 36)

-- the number, where it is in range
abbrev pub in_range : ℤ → Result ℤ Overflow
in_range z = if is_decimal z then Ok z else Err (record {})

-- the same behind a division by y
abbrev pub divided_by : ℤ → ℤ → Result ℤ DecFault
divided_by y z =
    if unsigned_abs y == 0 then Err DivisionByZero
    else (if is_decimal z then Ok z else Err OutOfRange)

-- the greatest whole number that is no greater than x
abbrev pub floor_of : ℤ → ℤ
floor_of x = int_div_euclid x (pos unit) *ℤ pos unit

-- sums and differences are exact
unfoldable pub sum_of : ℤ → ℤ → Result ℤ Overflow
sum_of x y = in_range (x +ℤ y)

unfoldable pub difference_of : ℤ → ℤ → Result ℤ Overflow
difference_of x y = in_range (x -ℤ y)

-- products and quotients are cut towards zero behind 18 digits
unfoldable pub product_of : ℤ → ℤ → Result ℤ Overflow
product_of x y = in_range (int_div (x *ℤ y) (pos unit))

unfoldable pub quotient_of : ℤ → ℤ → Result ℤ DecFault
quotient_of x y = divided_by y (int_div (x *ℤ pos unit) y)

-- the quotient cut towards zero to a whole number (`idiv`)
unfoldable pub whole_quotient_of : ℤ → ℤ → Result ℤ DecFault
whole_quotient_of x y = divided_by y (int_div x y *ℤ pos unit)

-- what that whole number of times y leaves of x (`mod`)
unfoldable pub remainder_of : ℤ → ℤ → Result ℤ ZeroDivisor
remainder_of x y = if unsigned_abs y == 0 then Err (record {}) else Ok (x -ℤ y *ℤ int_div x y)

-- the whole numbers next to x: not above it, not below it, and not above x and a half
unfoldable pub rounded_down : ℤ → Result ℤ Overflow
rounded_down x = in_range (floor_of x)

unfoldable pub rounded_up : ℤ → Result ℤ Overflow
rounded_up x = in_range (neg_ℤ (floor_of (neg_ℤ x)))

unfoldable pub rounded : ℤ → Result ℤ Overflow
rounded x = in_range (floor_of (x +ℤ pos half))

-- the units of the whole hundredths that are nearest to a magnitude, a half counted up
abbrev pub hundredths : ℕ → ℕ
hundredths magnitude = (magnitude + 5 * 10 ^ 15) / 10 ^ 16 * 10 ^ 16

-- the nearest whole number of hundredths, halves away from zero
unfoldable pub nearest_hundredth : ℤ → Result ℤ Overflow
nearest_hundredth x = in_range (with_sign (is_negative x) (hundredths (unsigned_abs x)))
