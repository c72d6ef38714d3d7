-- Open tables: those of which the tests hold that all laws of reading and writing ask of a table, in a form that a row
-- which a user adds keeps. The three tables are so by computing; every table that good rows extend is so by induction, and
-- nothing is computed of it.
use Rattle.std.specs.Prelude.{◌≡◌, ℕ, ◌+◌, ◌*◌, ◌<◌, ◌≤◌, Bool, true, not, ◌||◌, List, [], All, length, Some}
use Rattle.std.specs.List.{list_all}
use Rattle.bind_rows.specs.declared.rows.Row.{Row}
use Rattle.bind_rows.specs.declared.tables.DocumentType.{DocumentType}
use Rattle.bind_table.specs.Laid.{is_writable}
use Rattle.bind_table.specs.Lines.{Plan, plan_of}
use Rattle.bind_meaning.specs.Picks.{has_any_term}
use Rattle.bind_write.specs.Sources.{has_plain_attribute}
use Rattle.bind_carrying.specs.Tables as carrying
use Rattle.binding_laws.specs.Covered.{is_covered_in, unjoined_terms, unpaired_terms}
use Rattle.binding_laws.specs.Faultless.{is_faultless}
use Rattle.carrying_laws.specs.Complete.{is_complete}
use Rattle.written_laws.specs.Readable.{reading_limits, is_readable, names_of, shows, invoice_number}
use Rattle.written_laws.specs.Roots.{root_table}

-- Each row with a term is covered.
abbrev pub are_covered_in : Plan → List Row → Bool
are_covered_in plan rows = list_all (λ (row : Row). not (has_any_term row) || is_covered_in plan rows row) rows

abbrev pub are_covered : List Row → Bool
are_covered rows = are_covered_in (plan_of rows) rows

-- There is room for the names of so many rows more, of 23 elements at most.
abbrev pub HasRoom : ℕ → List Row → Type 0
HasRoom more rows = length (names_of (plan_of rows)) + 46 * more ≤ reading_limits.names

pub record IsOpen (table : DocumentType) (rows : List Row) : Type 0 where
  -- the laws of lines, and all that stand on them
  pub long : All (λ (row : Row). 0 < length row.path) rows
  -- that what is written is read back (settled, and no term left out, follow from these three)
  pub covered : are_covered rows ≡ true
  pub joined : unjoined_terms (plan_of rows) rows ≡ []
  pub paired : unpaired_terms (plan_of rows) rows ≡ []
  -- that no fault is found in it
  pub faultless : is_faultless rows ≡ true
  -- that each invoice that is carried is written whole
  pub complete : is_complete rows ≡ true
  -- that documents are texts that are read, and that there is one of each invoice
  pub readable : is_readable reading_limits rows ≡ true
  pub shows : shows invoice_number (plan_of rows) ≡ true
  -- that the table of a document, and of an invoice, is told
  pub root : root_table rows ≡ Some table
  pub document_type : carrying.document_type_of rows ≡ table
  -- that the writer takes the table
  pub laid : is_writable rows ≡ true
  pub notes : list_all has_plain_attribute rows ≡ true
