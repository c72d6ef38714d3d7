-- UTF-8 byte by byte: where bytes stand in it, and which characters they end.
use Rattle.std.specs.Prelude.{ℕ, ◌+◌, ◌-◌, ◌*◌, ◌%◌, Bool, false, not, ◌==◌, nat_lt, Option, Some, None, if◌then◌else◌}
use Rattle.inv_base.specs.Characters.{is_within, is_char}
use Rattle.xml_tokens.specs.declared.spelling.Spelling.{Spelling}
use Rattle.xml_tokens.specs.declared.spelling.Spelling.TheVariants.{Between, Inside, Broken}

-- where bytes stand in UTF-8 behind the first byte of a character
abbrev pub behind_first : ℕ → Spelling
behind_first b =
    if nat_lt b 0x80 then Between
    else (if is_within 0xC2 0xDF b then Inside 1 0x80 0xBF (b - 0xC0)
    else (if b == 0xE0 then Inside 2 0xA0 0xBF 0
    else (if b == 0xED then Inside 2 0x80 0x9F 0xD
    else (if is_within 0xE1 0xEF b then Inside 2 0x80 0xBF (b - 0xE0)
    else (if b == 0xF0 then Inside 3 0x90 0xBF 0
    else (if is_within 0xF1 0xF3 b then Inside 3 0x80 0xBF (b - 0xF0)
    else (if b == 0xF4 then Inside 3 0x80 0x8F 4
    else Broken)))))))

-- the value of a character's bytes and one more; before the last one it is below 0x8000
abbrev pub value_behind : ℕ → ℕ → ℕ
value_behind value b = (value % 0x8000) * 64 + b % 64

-- the same inside a character
abbrev pub behind_inner : ℕ → ℕ → ℕ → ℕ → ℕ → Spelling
behind_inner more low high value b =
    if is_within low high b then (if nat_lt more 2 then Between else Inside (more - 1) 0x80 0xBF (value_behind value b)) else Broken

-- where bytes stand behind one more
abbrev pub spelling_behind : Spelling → ℕ → Spelling
spelling_behind Between b = behind_first b
spelling_behind (Inside more low high value) b = behind_inner more low high value b
spelling_behind Broken b = Broken

-- the character that the next byte ends, if any, where the bytes stay UTF-8
abbrev pub ended : Spelling → ℕ → Option ℕ
ended Between b = if nat_lt b 0x80 then Some b else None
ended (Inside more low high value) b = if nat_lt more 2 then Some (value_behind value b) else None
ended Broken b = None

-- It is no Char.
abbrev pub is_wrong : Option ℕ → Bool
is_wrong None = false
is_wrong (Some c) = not (is_char c)
