-- Counts as decimals.
use Rattle.std.specs.Prelude.{ℕ, ◌*◌, ℤ, pos, Result, Ok, Err, nat_lt, if◌then◌else◌}
use Rattle.inv_decimal.specs.Number.{unit}
use Rattle.inv_decimal.specs.declared.fault.Overflow.{Overflow}

-- the number of a count, which is out of range from 10^18 on
abbrev pub count_of : ℕ → Result ℤ Overflow
count_of count = if nat_lt count unit then Ok (pos (count * unit)) else Err (record {})
