-- Parts of works that are the works themselves.
use Rattle.std.specs.Prelude.{◌≡◌, Bool, true, false, not, List, [], ◌∷◌}
use Rattle.xpath_grammar.specs.declared.expr.Label.{Label}
use Rattle.xpath_grammar.specs.declared.expr.Label.TheVariants as k
use Rattle.xpath_meaning.specs.Expressions.{Exp}
use Rattle.xpath_meaning.specs.Resolving.{Operand}
use Rattle.xpath_plan.specs.declared.plan_node.Operation.{Operation}
use Rattle.xpath_plan.specs.declared.plan_node.Operation.TheVariants as m

abbrev pub is_filtered_step : Operation → Bool
is_filtered_step m.FilteredStep = true
is_filtered_step m.FreeStep = true
is_filtered_step _ = false

-- There is one part alone.
abbrev pub is_one : List Operand → Bool
is_one (part ∷ []) = true
is_one _ = false

-- There is one part alone, which is this one.
abbrev pub IsOnly : List Operand → Exp → Type 0
IsOnly (part ∷ []) x = part.1 ≡ x
IsOnly _ x = ⊥

-- an operator stands there
abbrev pub is_operator : Label → Bool
is_operator (k.Link operator) = true
is_operator _ = false

-- There is one part alone, and no operator before it.
abbrev pub is_plain_one : List Operand → Bool
is_plain_one (part ∷ []) = not (is_operator part.0)
is_plain_one _ = false
