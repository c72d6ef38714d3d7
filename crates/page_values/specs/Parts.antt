-- Parts of a row or a paragraph: terms, each with words before its value, with spaces between.
use Rattle.std.specs.Prelude.{ℕ, Bool, false, ◌||◌, List, [], ◌∷◌, ◌++◌, Some, None, is_some, if◌then◌else◌}
use Rattle.std.specs.List.{list_any}
use Rattle.page_tables.specs.Tables.{Part}
use Rattle.page_values.specs.Places.{Place, value_at}
use Rattle.page_values.specs.Values.{shown}

-- The part's term has a value there.
abbrev pub stands : Place → Part → Bool
stands place part = is_some (value_at place part.1)

abbrev pub any_stands : Place → List Part → Bool
any_stands place parts = list_any (stands place) parts

abbrev pub words_before : List ℕ → List ℕ
words_before [] = []
words_before (c ∷ words) = (c ∷ words) ++ 0x20 ∷ []

abbrev pub space_behind : Bool → List ℕ
space_behind one = if one then 0x20 ∷ [] else []

-- a part, where it stands: its words and its value, with a space before them behind another one
abbrev pub part_text : Bool → Place → Part → List ℕ
part_text behind place part = elim (value_at place part.1) [
  | None ↦ []
  | Some value ↦ space_behind behind ++ (words_before part.0 ++ shown place part.1 part.2 value)
]

-- parts behind others, of which one stands or none
abbrev pub parts_behind : Bool → Place → List Part → List ℕ
parts_behind behind place [] = []
parts_behind behind place (part ∷ parts) = part_text behind place part ++ parts_behind (behind || stands place part) place parts

abbrev pub parts_text : Place → List Part → List ℕ
parts_text place parts = parts_behind false place parts
