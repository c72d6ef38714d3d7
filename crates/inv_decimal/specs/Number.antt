-- Decimal numbers, seen as whole counts of units of 10^-18. XML Schema Part 2 asks for 18 digits in all; here there are
-- 18 on each side of the point.
use Rattle.std.specs.Prelude.{◌≡◌, ℕ, ◌-◌, ◌%◌, ◌^◌, ◌<◌, ◌≤◌, ℤ, unsigned_abs}

-- the units of one
abbrev pub unit : ℕ
unit = 10 ^ 18

-- there is such a number: it has at most 18 digits before the point
abbrev pub IsDecimal : ℤ → Type 0
IsDecimal z = unsigned_abs z < 10 ^ 36

-- a number with how many digits behind the point it is written
pub record ScaledDecimal : Type 0 where
  pub value : ℤ
  pub digits : ℕ

-- there is such a number, and the digits suffice for it
pub record IsScaled (s : ScaledDecimal) : Type 0 where
  pub in_range : IsDecimal s.value
  pub at_most : s.digits ≤ 18
  pub enough : unsigned_abs s.value % 10 ^ (18 - s.digits) ≡ 0
