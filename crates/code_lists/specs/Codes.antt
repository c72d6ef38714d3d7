-- Codes, as characters.
use Rattle.std.specs.Prelude.{ℕ, Bool, ◌&&◌, List, [], ◌∷◌, ◌++◌, length, nat_le, bytes_eq, if◌then◌else◌}
use Rattle.std.specs.List.{list_all, list_any}
use Rattle.std.specs.Char.{is_ascii_graphic}

-- A code is 1 to 128 characters from U+0021 to U+007E.
abbrev pub is_code : List ℕ → Bool
is_code text = nat_le 1 (length text) && (nat_le (length text) 128 && list_all is_ascii_graphic text)

-- The code is one of the codes.
abbrev pub has_code : List (List ℕ) → List ℕ → Bool
has_code codes code = list_any (bytes_eq code) codes

-- the codes and one more, where it is new
abbrev pub with_code : List (List ℕ) → List ℕ → List (List ℕ)
with_code codes code = if has_code codes code then codes else codes ++ code ∷ []
