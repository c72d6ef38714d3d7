-- Characters in UTF-8: the well-formed byte sequences of the Unicode standard, table 3-7.
use Rattle.std.specs.Prelude.{ℕ, ◌+◌, ◌-◌, ◌*◌, zero, suc, true, false, nat_lt, ◌==◌, List, [], ◌∷◌, if◌then◌else◌}
use Rattle.inv_base.specs.Characters.{is_within}
use Rattle.xml_tokens.specs.declared.encoding.Begun.{Begun}
use Rattle.xml_tokens.specs.declared.encoding.Begun.TheVariants.{Character, Broken, Unfinished}

-- A character of which so many bytes are still to come, the next one within these bounds: the bytes that came have this
-- value and number.
abbrev pub continued : ℕ → ℕ → ℕ → ℕ → ℕ → List ℕ → Begun ℕ
continued zero low high c n bytes = Character c n
continued (suc more) low high c n [] = Unfinished
continued (suc more) low high c n (b ∷ bytes) =
    if is_within low high b then continued more 0x80 0xBF (c * 64 + (b - 0x80)) (n + 1) bytes else Broken (n + 1)

-- a character of more than one byte, by its first byte and what follows it
abbrev pub behind_lead : ℕ → List ℕ → Begun ℕ
behind_lead b bytes =
    if is_within 0xC2 0xDF b then continued 1 0x80 0xBF (b - 0xC0) 1 bytes
    else (if b == 0xE0 then continued 2 0xA0 0xBF 0 1 bytes
    else (if b == 0xED then continued 2 0x80 0x9F 0xD 1 bytes
    else (if is_within 0xE1 0xEF b then continued 2 0x80 0xBF (b - 0xE0) 1 bytes
    else (if b == 0xF0 then continued 3 0x90 0xBF 0 1 bytes
    else (if is_within 0xF1 0xF3 b then continued 3 0x80 0xBF (b - 0xF0) 1 bytes
    else (if b == 0xF4 then continued 3 0x80 0x8F 4 1 bytes
    else Broken 1))))))

-- what begins with the byte
unfoldable pub character_at : ℕ → List ℕ → Begun ℕ
character_at b bytes = elim (nat_lt b 0x80) [ true ↦ Character b 1 | false ↦ behind_lead b bytes ]
