-- What rules and patterns have, one thing after the other.
use Rattle.std.specs.Prelude.{ℕ, false, true, List, flat_map, fold, Option}
use Rattle.xpath_types.specs.Scopes.{Declared}
use Rattle.schematron_texts.specs.Replacing.{Parameter}
use Rattle.schematron_meaning.specs.declared.attribute.Attribute.TheVariants as a
use Rattle.schematron_meaning.specs.Entries.{Entry}
use Rattle.schematron_meaning.specs.Lookup.{is_let}
use Rattle.schematron_meaning.specs.Expansion.{File, Inclusion, Instance, instances}
use Rattle.schematron_meaning.specs.Written.{Written, with_let, written, written_let, written_assertion, written_rule, written_pattern, outer_scope}

-- One thing of a rule

abbrev pub written_put : List Entry → List Parameter → Declared → Declared → Inclusion → List Written
written_put es params all before inclusion = elim (is_let inclusion.entry.role) [
  | true ↦ written_let inclusion.stand params before inclusion.entry
  | false ↦ written_assertion es params all inclusion
]

-- the scope behind one
abbrev pub with_entry : List Parameter → Declared → Entry → Declared
with_entry params before e = elim (is_let e.role) [ true ↦ with_let params before e | false ↦ before ]

-- what a message asks for
abbrev pub written_parts : Option ℕ → List Parameter → Declared → List Entry → List Written
written_parts stand params all parts = flat_map (λ (part : Entry). written a.Select false stand params all part) parts

-- One thing of a pattern

abbrev pub written_item : File → Instance → Declared → Declared → Entry → List Written
written_item file instance all before e = elim (is_let e.role) [
  | true ↦ written_let instance.stand instance.params before e
  | false ↦ written_rule file instance all e
]

-- the scope behind lets and other elements
abbrev pub with_entries : List Parameter → Declared → List Entry → Declared
with_entries params before es = fold (with_entry params) before es

abbrev pub written_patterns : File → List Written
written_patterns file = flat_map (written_pattern file (outer_scope file.entries)) (instances file.entries)
