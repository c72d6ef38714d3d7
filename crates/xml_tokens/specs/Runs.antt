-- Runs of characters that are tokens one by one.
use Rattle.std.specs.Prelude.{ℕ, Bool, not, ◌&&◌, ◌||◌, ◌==◌}
use Rattle.inv_base.specs.Characters.{is_char}

-- a character that is a token wherever it stands, but at the start: no `<`, `&`, `]` or CR
abbrev pub is_plain : ℕ → Bool
is_plain c = is_char c && not (c == 0x3C || (c == 0x26 || (c == 0x5D || c == 0xD)))
