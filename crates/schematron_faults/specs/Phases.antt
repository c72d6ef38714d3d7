-- Lets of the schema and of its phases.
use Rattle.std.specs.Prelude.{List, ◌++◌, flat_map}
use Rattle.xpath_types.specs.Scopes.{Declared}
use Rattle.schematron_meaning.specs.Entries.{Entry}
use Rattle.schematron_meaning.specs.Lookup.{the_schema, is_let, is_phase, of_role, inside}
use Rattle.schematron_meaning.specs.Written.{Written, prefixes, written_lets, written_phases}

-- the values of the lets of the phases among some entries
abbrev pub written_phases_of : List Entry → Declared → List Entry → List Written
written_phases_of all scope es = flat_map (λ (phase : Entry). written_lets scope (inside is_let all phase.number)) (of_role is_phase es)

-- the lets of the phases among some entries
abbrev pub lets_of_phases : List Entry → List Entry → List Entry
lets_of_phases all es = flat_map (λ (phase : Entry). inside is_let all phase.number) (of_role is_phase es)

-- the values of the schema's lets and of those of phases
abbrev pub written_outside : List Entry → List Written
written_outside es = written_lets (prefixes es) (inside is_let es the_schema) ++ written_phases es
