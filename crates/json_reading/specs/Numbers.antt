-- Numbers (RFC 8259, section 6): what was read last, and what each byte makes of it.
use Rattle.std.specs.Prelude.{ℕ, Bool, true, false, ◌==◌, Option, Some, None, if◌then◌else◌}
use Rattle.json_reading.specs.declared.mode.Form.{Form}
use Rattle.json_reading.specs.declared.mode.Form.TheVariants.{Minus, Zero, Integer, Point, Fraction, Exponent, Sign, Power}
use Rattle.json_reading.specs.Bytes.{is_digit, is_exponent, is_sign}

-- a digit leads to the form
abbrev pub digit_to : Form → ℕ → Option Form
digit_to form b = if is_digit b then Some form else None

-- the first digit in front of the point: behind a zero no other stands
abbrev pub integer_begun : ℕ → Option Form
integer_begun b = if b == 0x30 then Some Zero else digit_to Integer b

abbrev pub form_begun : ℕ → Option Form
form_begun b = if b == 0x2D then Some Minus else integer_begun b

abbrev pub exponent_begun : ℕ → Option Form
exponent_begun b = if is_exponent b then Some Exponent else None

abbrev pub behind_zero : ℕ → Option Form
behind_zero b = if b == 0x2E then Some Point else exponent_begun b

abbrev pub behind_integer : ℕ → Option Form
behind_integer b = if is_digit b then Some Integer else behind_zero b

abbrev pub behind_fraction : ℕ → Option Form
behind_fraction b = if is_digit b then Some Fraction else exponent_begun b

abbrev pub behind_exponent : ℕ → Option Form
behind_exponent b = if is_sign b then Some Sign else digit_to Power b

-- what a number is behind one more byte, where that belongs to it
unfoldable pub form_behind : Form → ℕ → Option Form
form_behind Minus b = integer_begun b
form_behind Zero b = behind_zero b
form_behind Integer b = behind_integer b
form_behind Point b = digit_to Fraction b
form_behind Fraction b = behind_fraction b
form_behind Exponent b = behind_exponent b
form_behind Sign b = digit_to Power b
form_behind Power b = digit_to Power b

-- whether a number may end here
abbrev pub is_whole : Form → Bool
is_whole Minus = false
is_whole Zero = true
is_whole Integer = true
is_whole Point = false
is_whole Fraction = true
is_whole Exponent = false
is_whole Sign = false
is_whole Power = true
