-- The data that JSON text says (RFC 8259, sections 3 to 7), as far as it is written here: texts, whole numbers, arrays and objects.
use Rattle.std.specs.Prelude.{ℕ, ◌+◌, max, Bool, true, false, ◌&&◌, List, Option, Some, None}

-- Values that stand side by side, each with its name where it is a member of an object: none, or a text, a number, an array or an
-- object, and what follows it. An array and an object have the values that are inside them. Texts are lists of characters, by their
-- code points.
pub data Json : Type 0 where
  nothing : Json
  a_text : Option (List ℕ) → List ℕ → Json → Json
  a_number : Option (List ℕ) → ℕ → Json → Json
  an_array : Option (List ℕ) → Json → Json → Json
  an_object : Option (List ℕ) → Json → Json → Json

-- whether nothing is there
abbrev pub is_nothing : Json → Bool
is_nothing nothing = true
is_nothing (a_text name characters rest) = false
is_nothing (a_number name n rest) = false
is_nothing (an_array name inside rest) = false
is_nothing (an_object name inside rest) = false

-- whether a value is named that is to be named, or not where not
abbrev pub is_named_so : Bool → Option (List ℕ) → Bool
is_named_so true (Some name) = true
is_named_so true None = false
is_named_so false (Some name) = false
is_named_so false None = true

-- Exactly the members of objects are named: those that stand here, if they are members, and those inside them.
abbrev pub are_named : Bool → Json → Bool
are_named members nothing = true
are_named members (a_text name characters rest) = is_named_so members name && are_named members rest
are_named members (a_number name n rest) = is_named_so members name && are_named members rest
are_named members (an_array name inside rest) = is_named_so members name && (are_named false inside && are_named members rest)
are_named members (an_object name inside rest) = is_named_so members name && (are_named true inside && are_named members rest)

-- how many arrays and objects are open at once at most
abbrev pub nesting : Json → ℕ
nesting nothing = 0
nesting (a_text name characters rest) = nesting rest
nesting (a_number name n rest) = nesting rest
nesting (an_array name inside rest) = max (1 + nesting inside) (nesting rest)
nesting (an_object name inside rest) = max (1 + nesting inside) (nesting rest)
