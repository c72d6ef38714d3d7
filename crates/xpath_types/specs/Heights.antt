-- Names of variables that are bound one inside the other, on a stack, and how high each name stands.
use Rattle.std.specs.Prelude.{ℕ, true, false, List, [], ◌∷◌, Option, Some, None, length, map, chars, String, string_bytes, ◌≡◌}
use Rattle.std.specs.Global.{Global}
use Rattle.std.specs.Map.{lookup}
use Rattle.std.specs.Str.{bytes_eq, IsUtf8}
use Rattle.xpath_types.specs.declared.heights.Bound.{Bound}

abbrev pub name_of : Bound → List ℕ
name_of bound = chars (string_bytes bound.name)

-- the names of a stack within others, the innermost first
abbrev pub stacked : List (List ℕ) → List Bound → List (List ℕ)
stacked outer [] = outer
stacked outer (bound ∷ more) = stacked (name_of bound ∷ outer) more

-- how many stand around the innermost of the name
abbrev pub height_in : List ℕ → List (List ℕ) → Option ℕ
height_in name [] = None
height_in name (inner ∷ outer) = elim (bytes_eq name inner) [ true ↦ Some (length outer) | false ↦ height_in name outer ]

-- where the name of each stands outside
abbrev pub hidden_by : List (List ℕ) → List Bound → List (Option ℕ)
hidden_by outer [] = []
hidden_by outer (bound ∷ more) = height_in (name_of bound) outer ∷ hidden_by (name_of bound ∷ outer) more

-- a name of no entry stands nowhere, as one of a variable that was let go
abbrev pub read_of : Option (Option ℕ) → Option ℕ
read_of None = None
read_of (Some height) = height

-- By the entries each name leads to the innermost variable of that name, and each variable knows which one it hides.
pub record AreFound (heights : List (String Global × Option ℕ)) (stack : List Bound) : Type 0 where
  pub found : (name : List ℕ) → IsUtf8 name → read_of (lookup (λ key. bytes_eq name (string_bytes key)) heights) ≡ height_in (chars name) (stacked [] stack)
  pub hidden : map (λ bound. bound.hidden) stack ≡ hidden_by [] stack
