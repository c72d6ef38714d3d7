-- The variables that are bound around a part, with the kinds of their values.
use Rattle.std.specs.Prelude.{ℕ, true, false, ◌+◌, List, [], ◌∷◌, Option, Some, None, length, slice_get, unwrap_or}
use Rattle.std.specs.Str.{bytes_eq}
use Rattle.xpath_types.specs.declared.variables.Reading.{Reading}
use Rattle.xpath_types.specs.Kinds.{Kinds, no_kinds}

-- names, the innermost first, with their kinds, which stand the other way round
abbrev pub with_kinds : List Kinds → List (List ℕ) → List (List ℕ × Kinds)
with_kinds kinds [] = []
with_kinds kinds (name ∷ outer) = (name, unwrap_or (slice_get kinds (length outer)) no_kinds) ∷ with_kinds kinds outer

-- the innermost variable of the name: how high it stands, and its kinds
abbrev pub innermost : List ℕ → List (List ℕ × Kinds) → Option Reading
innermost name [] = None
innermost name (variable ∷ outer) = elim (bytes_eq name variable.0) [
  | true ↦ Some (record { height = 1 + length outer; kinds = variable.1 })
  | false ↦ innermost name outer
]
