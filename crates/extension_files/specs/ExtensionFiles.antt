-- A file of extension terms: a TOML document with one array of tables `term`, of which each gives a term.
use Rattle.std.specs.Prelude.{ℕ, ◌+◌, Bool, true, ◌&&◌, List, [], ◌∷◌, Option, Some, None, is_some, Result, Ok, Err, codes, chars, if◌then◌else◌}
use Rattle.std.specs.Option.{option_map, option_and_then}
use Rattle.toml.specs.Data.{Data, Items, no_items, item, Members, get_member, as_array, as_table}
use Rattle.code_lists.specs.CodeFiles.{document_of}
use Rattle.extension_files.specs.declared.terms.ExtTerm.{ExtTerm}
use Rattle.extension_files.specs.declared.fault.ExtFault.{ExtFault}
use Rattle.extension_files.specs.declared.fault.ExtFault.TheVariants.{NotToml, NotAnExtension, BadTerm}
use Rattle.code_lists.specs.Keys.{other_key}
use Rattle.extension_files.specs.TermTables.{term_of}

abbrev pub value_term : ℕ → Data → Option ExtTerm
value_term before d = option_and_then (term_of before) (as_table d)

-- the term in front of others, if there is no fault in them
abbrev pub before_terms : ExtTerm → Result (List ExtTerm) ExtFault → Result (List ExtTerm) ExtFault
before_terms term (Ok terms) = Ok (term ∷ terms)
before_terms term (Err fault) = Err fault

-- The terms of tables, each with a number above that of the one before it, or the place of the first table that is no such term.
-- The first of these tables has the place that is given.
abbrev pub terms_from : ℕ → ℕ → Items → Result (List ExtTerm) ExtFault
terms_from before place no_items = Ok []
terms_from before place (item d ds) = elim (value_term before d) [
  | None ↦ Err (BadTerm place)
  | Some term ↦ before_terms term (terms_from term.number (place + 1) ds)
]

abbrev pub are_tables : Items → Bool
are_tables no_items = true
are_tables (item d ds) = is_some (as_table d) && are_tables ds

-- the items of an array of tables
abbrev pub tables_in : Data → Option Items
tables_in d = option_and_then (λ items. if are_tables items then Some items else None) (as_array d)

abbrev pub term_tables : Members → Option Items
term_tables document = option_and_then tables_in (get_member (codes "term") document)

-- the terms of a document, or its first fault: another key comes before all else
abbrev pub document_terms : Members → Result (List ExtTerm) ExtFault
document_terms document = elim (other_key (codes "term" ∷ []) document) [
  | Some key ↦ Err (NotAnExtension (chars key))
  | None ↦ elim (term_tables document) [ None ↦ Err (NotAnExtension (codes "term")) | Some tables ↦ terms_from 0 1 tables ]
]

-- the terms of a file, or its fault
abbrev pub file_terms : List ℕ → Result (List ExtTerm) ExtFault
file_terms bytes = elim (document_of bytes) [ None ↦ Err NotToml | Some document ↦ document_terms document ]
