-- What calls answer.
use Rattle.std.specs.Prelude.{◌≡◌, Bool, List, ℕ, None, Some, Result, Ok, Err}
use Rattle.xpath_types.specs.Scopes.{Declared}
use Rattle.xpath_plan.specs.Plans.{Planned, expression}
use Rattle.schematron_meaning.specs.declared.fault.ExpressionFault.{ExpressionFault}
use Rattle.schematron_meaning.specs.Faults.{expression_fault}
use Rattle.schematron_meaning.specs.Rules.{expression_in}

-- An expression as it is judged in a scope: it is right and has this plan, or it is refused so.
abbrev pub Judges : Bool → List ℕ → Declared → Result Planned ExpressionFault → Type 0
Judges is_pattern text scope (Ok plan) = (expression_fault is_pattern text scope ≡ None) × (expression plan ≡ expression_in scope is_pattern text)
Judges is_pattern text scope (Err fault) = expression_fault is_pattern text scope ≡ Some fault
