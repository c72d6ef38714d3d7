-- Which characters have an escape in a string.
use Rattle.std.specs.Prelude.{ℕ, Bool, ◌||◌, ◌==◌, nat_lt}

-- the control characters, a quote and a backslash
abbrev pub is_escaped : ℕ → Bool
is_escaped c = nat_lt c 0x20 || (c == 0x22 || c == 0x5C)
