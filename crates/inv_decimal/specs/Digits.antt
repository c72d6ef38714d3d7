-- Decimal digits as characters.
use Rattle.std.specs.Prelude.{ℕ, zero, suc, ◌+◌, ◌/◌, ◌%◌, ◌^◌, List, [], ◌∷◌, ◌++◌, take, drop, length, reverse, ◌==◌, ◌&&◌, Option, Some, None, nat_lt}
use Rattle.std.specs.Prelude.{if◌then◌else◌}
use Rattle.std.specs.List.{list_all}
use Rattle.std.specs.Char.{is_ascii_digit}
use Rattle.std.specs.Str.Parse.{digits_value}

-- the last k digits of n, the zeros among them too
unfoldable pub last_digits : ℕ → ℕ → List ℕ
last_digits zero n = []
last_digits (suc k) n = (48 + n / 10 ^ k % 10) ∷ last_digits k n

-- the characters behind the zeros at the front
abbrev pub without_leading_zeros : List ℕ → List ℕ
without_leading_zeros [] = []
without_leading_zeros (c ∷ cs) = if c == 48 then without_leading_zeros cs else c ∷ cs

-- the characters before the zeros at the end
unfoldable pub without_trailing_zeros : List ℕ → List ℕ
without_trailing_zeros cs = reverse (without_leading_zeros (reverse cs))

-- the number that the characters write, if they are digits alone and it has at most 18 of them behind leading zeros
abbrev pub digits_number : List ℕ → Option ℕ
digits_number cs =
    if list_all is_ascii_digit cs && nat_lt (digits_value 10 cs) (10 ^ 18)
    then Some (digits_value 10 cs)
    else None

-- the list with a piece put over what stands at a place
abbrev pub overwritten : List ℕ → ℕ → List ℕ → List ℕ
overwritten old at piece = take at old ++ (piece ++ drop (at + length piece) old)
