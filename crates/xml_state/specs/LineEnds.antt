-- Line ends, read from the left (XML 1.0, section 2.11).
use Rattle.std.specs.Prelude.{ℕ, Bool, ◌&&◌, ◌==◌, List, [], ◌∷◌, ◌++◌, if◌then◌else◌}

-- what a character is, where it is known whether a CR stands before it: CR is LF, and a LF behind it nothing
abbrev pub line_piece : Bool → ℕ → List ℕ
line_piece is_behind_return c = if c == 0xD then 0xA ∷ [] else (if (c == 0xA) && is_behind_return then [] else c ∷ [])

abbrev pub read_lines : Bool → List ℕ → List ℕ
read_lines is_behind_return [] = []
read_lines is_behind_return (c ∷ characters) = line_piece is_behind_return c ++ read_lines (c == 0xD) characters
