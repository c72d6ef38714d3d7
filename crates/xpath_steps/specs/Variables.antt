-- The variables that are declared outside, with their values.
use Rattle.std.specs.Prelude.{ℕ, List, [], ◌∷◌, map, Ok, Err}
use Rattle.xpath_meaning.specs.Values.{Value, value}
use Rattle.xpath_operators.specs.Nodes.{AreWithin}
use Rattle.xpath_steps.specs.declared.variables.Variable.{Variable}

abbrev pub variable_of : Variable → List ℕ × Value
variable_of variable = (variable.name, value variable.outcome)

abbrev pub variables_of : List Variable → List (List ℕ × Value)
variables_of variables = map variable_of variables

-- The nodes of a value are among so many.
abbrev pub ValueWithin : ℕ → Value → Type 0
ValueWithin count (Ok items) = AreWithin count items
ValueWithin count (Err error) = Unit {0}

abbrev pub ValuesWithin : ℕ → List (List ℕ × Value) → Type 0
ValuesWithin count [] = Unit {0}
ValuesWithin count (variable ∷ variables) = ValueWithin count variable.1 × ValuesWithin count variables
