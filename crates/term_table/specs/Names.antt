-- The names of the business terms.
use Rattle.std.specs.Prelude.{ℕ, List, Option, slice_get, position, map, option_and_then}
use Rattle.term_table.specs.declared.names.TheConstants.{NAMES}
use Rattle.term_table.specs.declared.terms.Term.{Term}
use Rattle.term_table.specs.SemanticModel.{same_term, terms}

-- the names of the rows
abbrev pub names : List (List ℕ)
names = map (λ name. name.now) NAMES

-- the name of the term's first row
abbrev pub name_of : Term → Option (List ℕ)
name_of term = option_and_then (slice_get names) (position (λ row. same_term row.term term) terms)
