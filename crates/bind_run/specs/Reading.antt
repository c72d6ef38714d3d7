-- The invoice that a document is: by the table that its root element selects, or why it is none (CEN/TS 16931-3-2 and 16931-3-3).
use Rattle.std.specs.Prelude.{◌≡◌, ◌≢◌, ◌<◌, ℕ, nat_lt, true, false, All, List, [], ◌∷◌, Option, Some, None, Result, Ok, Err}
use Rattle.inv_base.specs.Tree.{Node}
use Rattle.code_lists.specs.CodeFiles.{Lists}
use Rattle.inv_terms.specs.declared.violations.Name.TheVariants as violations
use Rattle.extension_files.specs.declared.terms.ExtTerm.{ExtTerm}
use Rattle.bind_meaning.specs.declared.fault.BindFault.{BindFault}
use Rattle.bind_meaning.specs.declared.fault.BindKind.TheVariants as kinds
use Rattle.bind_rows.specs.declared.rows.Row.{Row}
use Rattle.bind_rows.specs.declared.tables.DocumentType.{DocumentType}
use Rattle.bind_rows.specs.declared.tables.DocumentType.TheVariants as document_type
use Rattle.bind_table.specs.WellFormed.{first_fault}
use Rattle.bind_meaning.specs.Tables.{rows_of}
use Rattle.bind_meaning.specs.Terms.{Read, terms_of}
use Rattle.bind_meaning.specs.Faults.{faults_in, passed_nodes}
use Rattle.bind_meaning.specs.Losses.{lost_nodes, misplaced_nodes, unread_nodes}
use Rattle.bind_run.specs.declared.faults.ReadingReport.{ReadingReport as FaultsFound}
use Rattle.bind_run.specs.declared.reading.ReadInvoice.{ReadInvoice}
use Rattle.bind_run.specs.declared.reading.WholeRead.{WholeRead}
use Rattle.bind_run.specs.declared.tables.KeptTables.{KeptTables}
use Rattle.bind_run.specs.declared.tables.Tables.{Tables}
use Rattle.bind_run.specs.declared.tables.Tables.TheVariants as three
use Rattle.bind_run.specs.Extensions.{rows_for}
use Rattle.bind_run.specs.Roots.{document_type_of, unknown_root}

abbrev pub by_root : (DocumentType → List Row) → List Node → Lists → Option DocumentType → Result Read BindFault
by_root rows nodes lists None = Err unknown_root
by_root rows nodes lists (Some table) = terms_of nodes (rows table) lists

-- the invoice that a document is by three tables, with how many elements were passed over, or its first fault
abbrev pub invoice_by : (DocumentType → List Row) → List Node → Lists → Result Read BindFault
invoice_by rows nodes lists = by_root rows nodes lists (document_type_of nodes)

-- the same by the tables of the standard
abbrev pub invoice_of : List Node → Lists → Result Read BindFault
invoice_of nodes lists = invoice_by rows_of nodes lists

-- ---- all faults

-- all faults of a document by a table, the elements that the table passes over, what is unread, and what is misplaced
pub record ReadingReport : Type 0 where
  pub document_type : DocumentType
  pub faults : List BindFault
  pub passed : List ℕ
  pub unread : List ℕ
  pub misplaced : List ℕ

abbrev pub report_by : List Node → List Row → Lists → DocumentType → ReadingReport
report_by nodes rows lists document_type = record {
  document_type = document_type;
  faults = faults_in nodes rows lists;
  passed = passed_nodes nodes rows;
  unread = unread_nodes nodes rows;
  misplaced = misplaced_nodes nodes rows;
}

abbrev pub faults_by_root : (DocumentType → List Row) → List Node → Lists → Option DocumentType → Result ReadingReport BindFault
faults_by_root rows nodes lists None = Err unknown_root
faults_by_root rows nodes lists (Some table) = Ok (report_by nodes (rows table) lists table)

-- the same by the table that the root selects, or why none is selected
abbrev pub faults_by : (DocumentType → List Row) → List Node → Lists → Result ReadingReport BindFault
faults_by rows nodes lists = faults_by_root rows nodes lists (document_type_of nodes)

-- what was found, as the definitions have it
abbrev pub found_report : FaultsFound → ReadingReport
found_report found = record {
  document_type = found.document_type;
  faults = found.faults.items;
  passed = found.passed_over.items;
  unread = found.losses.unread.items;
  misplaced = found.losses.misplaced.items;
}

-- What was found is the definition's answer, unless memory ran out.
abbrev pub FindsFaults : Result ReadingReport BindFault → Result FaultsFound BindFault → Type 0
FindsFaults expected (Ok found) = expected ≡ Ok (found_report found)
FindsFaults expected (Err fault) = fault.kind ≢ kinds.Memory → expected ≡ Err fault

-- The faults, and what is passed over, unread or misplaced, are at nodes of the document.
pub record IsWithin (count : ℕ) (found : FaultsFound) : Type 0 where
  pub faults : All (λ (fault : BindFault). fault.node < count) found.faults.items
  pub passed_over : All (λ n. n < count) found.passed_over.items
  pub unread : All (λ n. n < count) found.losses.unread.items
  pub misplaced : All (λ n. n < count) found.losses.misplaced.items

-- ---- what of a document is lost

abbrev pub first_of : List ℕ → Option ℕ
first_of [] = None
first_of (n ∷ ns) = Some n

-- of two nodes the one that stands before the other, or the one that is there
abbrev pub earlier : Option ℕ → Option ℕ → Option ℕ
earlier None b = b
earlier (Some a) None = Some a
earlier (Some a) (Some b) = elim (nat_lt b a) [ true ↦ Some b | false ↦ Some a ]

abbrev pub lost_by_root : (DocumentType → List Row) → List Node → Option DocumentType → Option ℕ
lost_by_root rows nodes None = None
lost_by_root rows nodes (Some table) = first_of (lost_nodes nodes (rows table))

-- The first in document order of the elements that are passed over and of the nodes that are unread, by the table that the root
-- selects.
abbrev pub first_lost : (DocumentType → List Row) → List Node → Option ℕ
first_lost rows nodes = lost_by_root rows nodes (document_type_of nodes)

-- ---- what the code has

abbrev pub kept_rows : KeptTables → DocumentType → List Row
kept_rows kept document_type.Invoice = kept.invoice
kept_rows kept document_type.CreditNote = kept.credit_note
kept_rows kept document_type.Cii = kept.cii

-- the rows of one of the tables
abbrev pub rows_in : Tables → DocumentType → List Row
rows_in three.BuiltIn table = rows_of table
rows_in (three.Kept kept) table = kept_rows kept table

-- Each is well formed.
abbrev pub AreFormed : Tables → Type 0
AreFormed tables = (table : DocumentType) → first_fault (rows_in tables table) ≡ Ok tt

-- They are the three tables with the rows of these terms.
abbrev pub AreTablesFor : List ExtTerm → Tables → Type 0
AreTablesFor terms tables = (table : DocumentType) → rows_in tables table ≡ rows_for terms table

-- They are the three tables.
abbrev pub AreTables : Tables → Type 0
AreTables tables = AreTablesFor [] tables

-- What was read is the definition's answer, unless memory ran out.
abbrev pub Reads : Result Read BindFault → Result ReadInvoice BindFault → Type 0
Reads expected (Ok found) = expected ≡ Ok (record { entries = found.invoice; passed_over = found.passed_over })
Reads expected (Err fault) = fault.kind ≢ kinds.Memory → expected ≡ Err fault

-- The same of an invoice with the first of its document that is lost.
abbrev pub ReadsWhole : Result Read BindFault → Option ℕ → Result WholeRead BindFault → Type 0
ReadsWhole expected lost (Ok found) = Reads expected (Ok found.read) × (found.lost ≡ lost)
ReadsWhole expected lost (Err fault) = fault.kind ≢ kinds.Memory → expected ≡ Err fault

-- Want of memory stands at the document itself, and no term or group is at fault.
abbrev pub want_of_memory : BindFault
want_of_memory = record { kind = kinds.Memory; name = violations.Nothing; node = 0 }

-- No other fault is told as want of memory.
abbrev pub IsWholeIfMemory : BindFault → Type 0
IsWholeIfMemory fault = fault.kind ≡ kinds.Memory → fault ≡ want_of_memory
