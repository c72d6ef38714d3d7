-- What the generated invoice asks for: quantities, prices, net amounts of lines and their sums. All are whole numbers.
use Rattle.std.specs.Prelude.{ℕ, ◌+◌, ◌*◌, ◌%◌, ◌^◌, pos, sum_by}
use Rattle.std.specs.List.{range_with_len}
use Rattle.inv_decimal.specs.Number.{ScaledDecimal}

-- of the line of that number
abbrev pub quantity : ℕ → ℕ
quantity i = 1 + i % 9

abbrev pub price : ℕ → ℕ
price i = (37 * i) % 1000 + 1

unfoldable pub net : ℕ → ℕ
net i = quantity i * price i

-- the net amounts of so many lines, summed up
unfoldable pub sum_of_nets : ℕ → ℕ
sum_of_nets lines = sum_by net (range_with_len 1 lines)

-- ---- numbers as they are written

-- so many hundredths, with two digits behind the point
abbrev pub hundredths : ℕ → ScaledDecimal
hundredths n = record { value = pos (n * 10 ^ 16); digits = 2 }

-- so many ones, with no digit behind the point
abbrev pub ones : ℕ → ScaledDecimal
ones n = record { value = pos (n * 10 ^ 18); digits = 0 }
