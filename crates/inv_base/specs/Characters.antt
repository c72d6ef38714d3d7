-- The characters of XML 1.0, fifth edition, and of Namespaces in XML 1.0, by their code points.
use Rattle.std.specs.Prelude.{ℕ, Bool, ◌&&◌, ◌||◌, nat_le, ◌==◌}

-- the character is one of the range, both ends included
abbrev pub is_within : ℕ → ℕ → ℕ → Bool
is_within low high c = nat_le low c && nat_le c high

-- Char, production 2
unfoldable pub is_char : ℕ → Bool
is_char c = c == 0x9 || (c == 0xA || (c == 0xD || (is_within 0x20 0xD7FF c || (is_within 0xE000 0xFFFD c || is_within 0x10000 0x10FFFF c))))

-- S, production 3: TAB, LF, CR and space
unfoldable pub is_white_space : ℕ → Bool
is_white_space c = c == 0x9 || (c == 0xA || (c == 0xD || c == 0x20))

-- NameStartChar, production 4, without the colon: how an NCName begins
unfoldable pub is_name_start : ℕ → Bool
is_name_start c = is_within 0x41 0x5A c || (c == 0x5F || (is_within 0x61 0x7A c || (is_within 0xC0 0xD6 c || (is_within 0xD8 0xF6 c
    || (is_within 0xF8 0x2FF c || (is_within 0x370 0x37D c || (is_within 0x37F 0x1FFF c || (is_within 0x200C 0x200D c
    || (is_within 0x2070 0x218F c || (is_within 0x2C00 0x2FEF c || (is_within 0x3001 0xD7FF c || (is_within 0xF900 0xFDCF c
    || (is_within 0xFDF0 0xFFFD c || is_within 0x10000 0xEFFFF c)))))))))))))

-- NameChar, production 4a, without the colon: how an NCName goes on
unfoldable pub is_name_char : ℕ → Bool
is_name_char c = is_name_start c ||
    (c == 0x2D || (c == 0x2E || (is_within 0x30 0x39 c || (c == 0xB7 || (is_within 0x300 0x36F c || is_within 0x203F 0x2040 c)))))
