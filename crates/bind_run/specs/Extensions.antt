-- Tables that a user's terms extend: each of the three has a row behind its own for each term that has a path in its syntax, and is judged with them.
use Rattle.std.specs.Prelude.{◌≡◌, ℕ, ◌-◌, true, List, [], ◌∷◌, Option, Some, None, Result, Ok, Err, slice_get}
use Rattle.std.specs.Option.{option_map, option_and_then}
use Rattle.term_table.specs.declared.groups.Group.{Group}
use Rattle.term_table.specs.declared.groups.Group.TheVariants as groups
use Rattle.term_table.specs.declared.terms.Term.{Term}
use Rattle.bind_rows.specs.declared.names.ElementName.{ElementName}
use Rattle.bind_rows.specs.declared.rows.Content.{Content}
use Rattle.bind_rows.specs.declared.rows.Content.TheVariants as contents
use Rattle.bind_rows.specs.declared.rows.Row.{Row}
use Rattle.bind_rows.specs.declared.tables.DocumentType.{DocumentType}
use Rattle.bind_rows.specs.declared.tables.DocumentType.TheVariants as document_type
use Rattle.extension_files.specs.declared.terms.ExtPlace.{ExtPlace}
use Rattle.extension_files.specs.declared.terms.ExtPlace.TheVariants as places
use Rattle.extension_files.specs.declared.terms.ExtTerm.{ExtTerm}
use Rattle.extension_files.specs.declared.terms.Paths.{Paths}
use Rattle.extension_files.specs.Extensions.{is_extension}
use Rattle.bind_table.specs.declared.extending.AddedTerm.{AddedTerm}
use Rattle.bind_table.specs.declared.judging.TableFault.{TableFault}
use Rattle.bind_table.specs.Extending.{extended}
use Rattle.bind_table.specs.WellFormed.{first_fault}
use Rattle.bind_meaning.specs.Tables.{rows_of}
use Rattle.bind_run.specs.declared.extensions.BadRow.{BadRow}
use Rattle.bind_run.specs.declared.extensions.ExtendFault.{ExtendFault}
use Rattle.bind_run.specs.declared.extensions.ExtendFault.TheVariants as faults

-- ---- terms as one syntax writes them

-- the group in whose occurrences the term stands
abbrev pub outer_of : ExtPlace → Option Group
outer_of places.Root = None
outer_of places.Line = Some groups.InvoiceLine

abbrev pub path_for : DocumentType → Paths → Option (List ElementName)
path_for document_type.Invoice paths = paths.ubl
path_for document_type.CreditNote paths = paths.credit_note
path_for document_type.Cii paths = paths.cii

abbrev pub added_with : ExtTerm → List ElementName → AddedTerm
added_with term names = record { number = term.number; outer = outer_of term.place; inner = None; data_type = term.data_type; names = names }

-- the term with its path there, if it has one
abbrev pub added_of : DocumentType → ExtTerm → Option AddedTerm
added_of table term = option_map (added_with term) (path_for table term.paths)

abbrev pub in_front : Option AddedTerm → List AddedTerm → List AddedTerm
in_front None added = added
in_front (Some a) added = a ∷ added

abbrev pub terms_for : DocumentType → List ExtTerm → List AddedTerm
terms_for table [] = []
terms_for table (term ∷ terms) = in_front (added_of table term) (terms_for table terms)

-- ---- the tables with them

-- the rows of one of the three tables, and those of the terms behind them
abbrev pub rows_for : List ExtTerm → DocumentType → List Row
rows_for terms table = extended table (rows_of table) (terms_for table terms)

-- They are terms as a file gives them, and each of the three tables is well formed with them.
pub record AreGood (terms : List ExtTerm) : Type 0 where
  pub fine : is_extension terms ≡ true
  pub formed : (table : DocumentType) → first_fault (rows_for terms table) ≡ Ok tt

-- ---- the first table that isn't well formed

abbrev pub term_in : Content → Option Term
term_in (contents.Term term) = Some term
term_in (contents.Constant text) = None

-- the term of the row of that number, from 1
abbrev pub term_at : List Row → ℕ → Option Term
term_at rows number = option_and_then (λ (row : Row). term_in row.content) (slice_get rows (number - 1))

abbrev pub as_bad_row : DocumentType → List Row → Result (Unit {0}) TableFault → Result (Unit {0}) BadRow
as_bad_row table rows (Ok good) = Ok tt
as_bad_row table rows (Err fault) = Err (record { table = table; kind = fault.kind; term = term_at rows fault.row })

-- the first row at which something is wrong, in one table
abbrev pub judged_in : DocumentType → List Row → Result (Unit {0}) BadRow
judged_in table rows = as_bad_row table rows (first_fault rows)

abbrev pub or_later : Result (Unit {0}) BadRow → Result (Unit {0}) BadRow → Result (Unit {0}) BadRow
or_later (Ok good) later = later
or_later (Err bad) later = Err bad

-- the first bad row of the first of these tables that has one, in the order UBL Invoice, UBL CreditNote, CII
abbrev pub judged : (DocumentType → List Row) → Result (Unit {0}) BadRow
judged rows =
    or_later (judged_in document_type.Invoice (rows document_type.Invoice))
    (or_later (judged_in document_type.CreditNote (rows document_type.CreditNote)) (judged_in document_type.Cii (rows document_type.Cii)))

-- The fault is that of the tables' bad row.
abbrev pub IsBadRow : ExtendFault → Result (Unit {0}) BadRow → Type 0
IsBadRow fault (Ok good) = ⊥
IsBadRow fault (Err bad) = fault ≡ faults.BadRow bad
