-- What strings say, as the code has it beside the definitions.
use Rattle.std.specs.Prelude.{List, [], ◌∷◌}
use Rattle.bind_meaning.specs.Values.{ParsedValue}
use Rattle.bind_terms.specs.declared.parsed_values.ParsedValue.{ParsedValue as Kept}
use Rattle.bind_terms.specs.declared.parsed_values.ParsedValues.{ParsedValues}
use Rattle.bind_terms.specs.declared.parsed_values.ParsedValues.TheVariants as parsed_values

abbrev pub parsed_of : Kept → ParsedValue
parsed_of kept = record { term = kept.term; value = kept.value }

-- all that a string says, in order
abbrev pub all_parsed : ParsedValues → List ParsedValue
all_parsed (parsed_values.One a) = parsed_of a ∷ []
all_parsed (parsed_values.Two a b) = parsed_of a ∷ (parsed_of b ∷ [])
