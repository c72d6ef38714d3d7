-- Numbers by their grammar (RFC 8259, section 6).
use Rattle.std.specs.Prelude.{ℕ, Bool, true, false, ◌&&◌, ◌==◌, List, [], ◌∷◌, ◌++◌, Option, Some, None, if◌then◌else◌}
use Rattle.std.specs.List.{list_all}
use Rattle.json_reading.specs.Bytes.{is_digit, is_exponent, is_sign}

-- an exponent: its letter, its sign if it has one, its digits
pub record Power : Type 0 where
  pub letter : ℕ
  pub sign : Option ℕ
  pub digits : List ℕ

-- a number: whether a minus stands before it, the digits before its point, those behind it if it has one, its exponent if it has one
pub record Number : Type 0 where
  pub minus : Bool
  pub whole : List ℕ
  pub fraction : Option (List ℕ)
  pub power : Option Power

abbrev pub minus_text : Bool → List ℕ
minus_text minus = if minus then 0x2D ∷ [] else []

abbrev pub fraction_text : Option (List ℕ) → List ℕ
fraction_text (Some digits) = 0x2E ∷ digits
fraction_text None = []

abbrev pub sign_text : Option ℕ → List ℕ
sign_text (Some sign) = sign ∷ []
sign_text None = []

abbrev pub power_text : Option Power → List ℕ
power_text (Some p) = p.letter ∷ (sign_text p.sign ++ p.digits)
power_text None = []

abbrev pub number_text : Number → List ℕ
number_text n = minus_text n.minus ++ (n.whole ++ (fraction_text n.fraction ++ power_text n.power))

abbrev pub are_digits : List ℕ → Bool
are_digits digits = list_all is_digit digits

abbrev pub is_empty : List ℕ → Bool
is_empty [] = true
is_empty (d ∷ digits) = false

-- one digit at least
abbrev pub some_digits : List ℕ → Bool
some_digits [] = false
some_digits (d ∷ digits) = is_digit d && are_digits digits

-- a zero alone, or digits that begin with another
abbrev pub is_whole : List ℕ → Bool
is_whole [] = false
is_whole (d ∷ digits) = if d == 0x30 then is_empty digits else is_digit d && are_digits digits

abbrev pub is_fraction : Option (List ℕ) → Bool
is_fraction (Some digits) = some_digits digits
is_fraction None = true

abbrev pub is_sign_if_any : Option ℕ → Bool
is_sign_if_any (Some sign) = is_sign sign
is_sign_if_any None = true

abbrev pub is_power : Option Power → Bool
is_power (Some p) = is_exponent p.letter && (is_sign_if_any p.sign && some_digits p.digits)
is_power None = true

abbrev pub is_number : Number → Bool
is_number n = is_whole n.whole && (is_fraction n.fraction && is_power n.power)
