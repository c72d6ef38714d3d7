-- Strings by their grammar (RFC 8259, section 7).
use Rattle.std.specs.Prelude.{ℕ, Bool, true, false, not, ◌&&◌, ◌||◌, ◌==◌, nat_lt, List, [], ◌∷◌, ◌++◌, flat_map, encode_utf8}
use Rattle.std.specs.List.{list_all, list_any}
use lib.Utf8.{scalar}
use Rattle.json_reading.specs.Bytes.{is_hex, is_short}

-- One piece of a string: a character as it is, by its code point; an escape of one letter; or one of four digits.
pub data Piece : Type 0 where
  unescaped : ℕ → Piece
  short : ℕ → Piece
  long : ℕ → ℕ → ℕ → ℕ → Piece

abbrev pub piece_text : Piece → List ℕ
piece_text (unescaped c) = encode_utf8 c
piece_text (short letter) = 0x5C ∷ letter ∷ []
piece_text (long a b c d) = 0x5C ∷ 0x75 ∷ a ∷ b ∷ c ∷ d ∷ []

-- control characters, quotes and backslashes can't stand as they are
abbrev pub needs_escape : ℕ → Bool
needs_escape c = nat_lt c 0x20 || (c == 0x22 || c == 0x5C)

-- a Unicode scalar value that can
abbrev pub is_unescaped : ℕ → Bool
is_unescaped c = scalar c && not (needs_escape c)

abbrev pub is_piece : Piece → Bool
is_piece (unescaped c) = is_unescaped c
is_piece (short letter) = is_short letter
is_piece (long a b c d) = is_hex a && (is_hex b && (is_hex c && is_hex d))

abbrev pub is_escape : Piece → Bool
is_escape (unescaped c) = false
is_escape (short letter) = true
is_escape (long a b c d) = true

-- the pieces between two quotes
abbrev pub quoted : List Piece → List ℕ
quoted pieces = 0x22 ∷ (flat_map piece_text pieces ++ 0x22 ∷ [])

abbrev pub are_pieces : List Piece → Bool
are_pieces pieces = list_all is_piece pieces

abbrev pub has_escape : List Piece → Bool
has_escape pieces = list_any is_escape pieces
