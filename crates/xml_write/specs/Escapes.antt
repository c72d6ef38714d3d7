-- The characters that canonical text doesn't write as they are, and the references that stand for them (XML 1.0, fifth
-- edition, sections 2.4, 2.11, 3.3.3 and 4.1). All of them are ASCII, so that bytes of UTF-8 are escaped as characters are.
use Rattle.std.specs.Prelude.{ℕ, ◌==◌, List, [], ◌∷◌, codes, flat_map, if◌then◌else◌}
use Rattle.xml_write.specs.declared.escape.Within.{Within}
use Rattle.xml_write.specs.declared.escape.Within.TheVariants as within

-- what stands for a character of a text
unfoldable pub in_text : ℕ → List ℕ
in_text c =
    if c == 0x26 then codes "&amp;"
    else (if c == 0x3C then codes "&lt;"
    else (if c == 0x3E then codes "&gt;"
    else (if c == 0xD then codes "&#xD;"
    else c ∷ [])))

-- what stands for a character of an attribute's value: a quote, TAB and LF are escaped too
unfoldable pub in_value : ℕ → List ℕ
in_value c =
    if c == 0x22 then codes "&quot;"
    else (if c == 0x9 then codes "&#x9;"
    else (if c == 0xA then codes "&#xA;"
    else in_text c))

abbrev pub escape_of : Within → ℕ → List ℕ
escape_of within.Text c = in_text c
escape_of within.Value c = in_value c

-- the characters with their escapes
abbrev pub escaped : Within → List ℕ → List ℕ
escaped place characters = flat_map (escape_of place) characters
