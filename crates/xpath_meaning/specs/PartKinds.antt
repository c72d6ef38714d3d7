-- The parts of an expression as they are judged before it is evaluated, and what they are evaluated in.
use Rattle.std.specs.Prelude.{ℕ, List, ◌++◌, map, ◌≡◌}
use Rattle.xpath_types.specs.declared.kinds.Kinds.{Kinds}
use Rattle.xpath_types.specs.Kinds.{all_kinds}
use Rattle.xpath_types.specs.Judging.{Environment}
use Rattle.xpath_meaning.specs.ItemKinds.{Expected}

-- variables that are bound around a part, the innermost first, with the kinds of their items
abbrev pub Bound : Type 0
Bound = List (List ℕ × Kinds)

abbrev pub names : Bound → List (List ℕ)
names bound = map (λ variable. variable.0) bound

-- Around the bound variables stand those that are declared outside, which may have any value.
abbrev pub AreInScope : Bound → Environment → Type 0
AreInScope bound env = env.variables ≡ bound ++ map (λ name. (name, all_kinds)) env.declared.variables

-- the kinds of the focus and of the bound variables, as a part is judged
abbrev pub expected : Environment → Bound → Expected
expected env bound = record { focus = env.focus; bound = map (λ variable. variable.1) bound }
