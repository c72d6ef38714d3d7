-- Texts as they are printed: quoted, and as bytes.
use Rattle.std.specs.Prelude.{ℕ, Bool, ◌||◌, ◌==◌, List, [], ◌∷◌, ◌++◌, flat_map, if◌then◌else◌}

-- A backslash, a quote, LF, CR and TAB stand behind a backslash, the last three by the letters n, r and t.
abbrev pub quoted_character : ℕ → List ℕ
quoted_character c =
    if c == 0x5C then 0x5C ∷ 0x5C ∷ []
    else (if c == 0x22 then 0x5C ∷ 0x22 ∷ []
    else (if c == 0xA then 0x5C ∷ 0x6E ∷ []
    else (if c == 0xD then 0x5C ∷ 0x72 ∷ []
    else (if c == 0x9 then 0x5C ∷ 0x74 ∷ []
    else c ∷ []))))

-- the characters behind a backslash
abbrev pub is_escaped : ℕ → Bool
is_escaped c = c == 0x5C || (c == 0x22 || (c == 0xA || (c == 0xD || c == 0x9)))

-- the characters between quotes
abbrev pub quoted : List ℕ → List ℕ
quoted characters = 0x22 ∷ (flat_map quoted_character characters ++ 0x22 ∷ [])
