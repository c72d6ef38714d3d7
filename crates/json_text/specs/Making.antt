-- Data made of parts that stand side by side.
use Rattle.std.specs.Prelude.{ℕ, List, [], ◌∷◌, Some, None}
use Rattle.json_text.specs.Json.{Json, nothing, a_text, a_number, an_array, an_object}

-- values, and others behind them
abbrev pub followed_by : Json → Json → Json
followed_by nothing others = others
followed_by (a_text name characters rest) others = a_text name characters (followed_by rest others)
followed_by (a_number name n rest) others = a_number name n (followed_by rest others)
followed_by (an_array name inside rest) others = an_array name inside (followed_by rest others)
followed_by (an_object name inside rest) others = an_object name inside (followed_by rest others)

-- all of these, in their order
abbrev pub joined : List Json → Json
joined [] = nothing
joined (values ∷ more) = followed_by values (joined more)

-- a member that is a text, a number, an array with what is inside it, or an object with its members
abbrev pub text_member : List ℕ → List ℕ → Json
text_member name characters = a_text (Some name) characters nothing

abbrev pub number_member : List ℕ → ℕ → Json
number_member name n = a_number (Some name) n nothing

abbrev pub array_member : List ℕ → Json → Json
array_member name inside = an_array (Some name) inside nothing

abbrev pub object_member : List ℕ → List Json → Json
object_member name members = an_object (Some name) (joined members) nothing

-- an object with its members that is no member itself
abbrev pub object : List Json → Json
object members = an_object None (joined members) nothing

-- what is said of each of these, in their order
abbrev pub each : {X : Type 0} → (X → Json) → List X → Json
each said [] = nothing
each said (x ∷ xs) = followed_by (said x) (each said xs)
