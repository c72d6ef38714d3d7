-- Files by their names, as a shelf that tells its content holds them. Names and contents are bytes.
use Rattle.std.specs.Prelude.{ℕ, Bool, false, not, ◌||◌, List, [], ◌∷◌, if◌then◌else◌, bytes_eq}

-- the files, of which the first of one name counts, and whether every other name is absent: else it is empty
pub record Files : Type 0 where
  pub named : List (List ℕ × List ℕ)
  pub others_absent : Bool

-- the bytes under a name, none where the files don't hold it
abbrev pub content_of : List ℕ → List (List ℕ × List ℕ) → List ℕ
content_of name [] = []
content_of name (file ∷ files) = if bytes_eq file.0 name then file.1 else content_of name files

-- some file has the name
abbrev pub is_named : List ℕ → List (List ℕ × List ℕ) → Bool
is_named name [] = false
is_named name (file ∷ files) = bytes_eq file.0 name || is_named name files

-- the bytes that a successful open of the name leaves to be read
abbrev pub bytes_under : List ℕ → Files → List ℕ
bytes_under name files = content_of name files.named

-- the name isn't absent
abbrev pub is_present : List ℕ → Files → Bool
is_present name files = is_named name files.named || not files.others_absent
