-- Kinds of bytes in JSON text (RFC 8259, sections 2, 6 and 7).
use Rattle.std.specs.Prelude.{ℕ, Bool, ◌||◌, ◌==◌}
use Rattle.inv_base.specs.Characters.{is_within}

-- white space
abbrev pub is_space : ℕ → Bool
is_space b = b == 0x20 || (b == 0x9 || (b == 0xA || b == 0xD))

abbrev pub is_digit : ℕ → Bool
is_digit b = is_within 0x30 0x39 b

abbrev pub is_hex : ℕ → Bool
is_hex b = is_within 0x30 0x39 b || (is_within 0x41 0x46 b || is_within 0x61 0x66 b)

-- what may stand behind a backslash, but for the `u`
abbrev pub is_short : ℕ → Bool
is_short b =
    b == 0x22 || (b == 0x5C || (b == 0x2F || (b == 0x62 || (b == 0x66 || (b == 0x6E || (b == 0x72 || b == 0x74))))))

abbrev pub is_exponent : ℕ → Bool
is_exponent b = b == 0x45 || b == 0x65

abbrev pub is_sign : ℕ → Bool
is_sign b = b == 0x2B || b == 0x2D
