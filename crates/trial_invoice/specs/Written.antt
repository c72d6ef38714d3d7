-- How the numbers of the generated invoice are written. No public clause cites it.
use Rattle.std.specs.Prelude.{ℕ, ◌+◌, ◌/◌, ◌%◌, nat_lt, Bool, List, [], ◌∷◌, ◌++◌, decimal}
use Rattle.std.specs.List.{list_all}

-- The text is of ASCII.
abbrev pub is_ascii : List ℕ → Bool
is_ascii text = list_all (λ c. nat_lt c 128) text

-- the last digit of a number
abbrev pub last_digit : ℕ → ℕ
last_digit n = 48 + n % 10

-- the point and two digits behind it
abbrev pub two_behind_point : ℕ → List ℕ
two_behind_point n = 46 ∷ (last_digit (n / 10) ∷ (last_digit n ∷ []))

-- so many hundredths
abbrev pub hundredths_text : ℕ → List ℕ
hundredths_text n = decimal (n / 100) ++ two_behind_point n
