-- Expanded names in the order in which they were first seen.
use Rattle.std.specs.Prelude.{◌≡◌, ℕ, ◌+◌, ◌<◌, length, Bool, ◌&&◌, List, [], ◌∷◌, bytes_eq, if◌then◌else◌, Option, Some, None, option_map}
use Rattle.inv_base.specs.Tree.{Name}
use Rattle.xml_events.specs.Events.{name_at}

abbrev pub same_name : Name → Name → Bool
same_name a b = bytes_eq a.uri b.uri && bytes_eq a.local b.local

-- The number of a name, from 0, where it is one of them.
abbrev pub find_name : Name → List Name → Option ℕ
find_name name [] = None
find_name name (n ∷ names) = if same_name n name then Some 0 else option_map (λ k. k + 1) (find_name name names)

-- the number of a name, which is how many there are where it is new
abbrev pub number_of : Name → List Name → ℕ
number_of name [] = 0
number_of name (n ∷ names) = if same_name n name then 0 else 1 + number_of name names

-- the names and one more, where it is new
abbrev pub with_name : List Name → Name → List Name
with_name [] name = name ∷ []
with_name (n ∷ names) name = if same_name n name then n ∷ names else n ∷ with_name names name

-- No name is among them twice: one name has one number.
abbrev pub AreDistinct : List Name → Type 0
AreDistinct names = (i j : ℕ) → i < length names → j < length names → name_at names i ≡ name_at names j → i ≡ j
