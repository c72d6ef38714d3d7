-- The characters that a value's text doesn't write as they are, so that no value makes markup. All of them are ASCII, so that bytes
-- of UTF-8 are escaped as characters are.
use Rattle.std.specs.Prelude.{ℕ, Bool, ◌==◌, ◌||◌, List, [], ◌∷◌, codes, flat_map, encode_utf8_all, if◌then◌else◌}

abbrev pub escaped_character : ℕ → List ℕ
escaped_character c =
    if c == 0x26 then codes "&amp;"
    else (if c == 0x3C then codes "&lt;"
    else (if c == 0x3E then codes "&gt;"
    else (if c == 0x22 then codes "&quot;"
    else c ∷ [])))

-- The character doesn't stand for itself.
abbrev pub is_marked : ℕ → Bool
is_marked c = c == 0x26 || (c == 0x3C || (c == 0x3E || c == 0x22))

-- characters as the page has them, in UTF-8
abbrev pub in_page : List ℕ → List ℕ
in_page characters = encode_utf8_all (flat_map escaped_character characters)
