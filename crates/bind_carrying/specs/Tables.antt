-- Which of the three tables a table is, by its root element, and by which an invoice is written.
use Rattle.std.specs.Prelude.{ℕ, Bool, true, false, ◌||◌, List, codes, bytes_eq, Option, Some, None}
use Rattle.term_table.specs.declared.terms.Term.{Term}
use Rattle.term_table.specs.Contexts.{root_context}
use Rattle.inv_terms.specs.declared.entries.Entry.{Entry}
use Rattle.inv_terms.specs.declared.values.Value.{Value}
use Rattle.inv_terms.specs.Values.{spelled}
use Rattle.inv_terms.specs.Listing.{value_in}
use Rattle.bind_rows.specs.declared.names.Namespace.{Namespace}
use Rattle.bind_rows.specs.declared.names.Namespace.TheVariants as spaces
use Rattle.bind_rows.specs.declared.rows.Row.{Row}
use Rattle.bind_write.specs.Documents.{root_namespace}
use Rattle.bind_meaning.specs.declared.tables.Syntax.{Syntax}
use Rattle.bind_meaning.specs.declared.tables.Syntax.TheVariants as syntaxes
use Rattle.bind_rows.specs.declared.tables.DocumentType.{DocumentType}
use Rattle.bind_rows.specs.declared.tables.DocumentType.TheVariants as document_type

abbrev pub table_of : Option Namespace → DocumentType
table_of (Some spaces.UblInvoice) = document_type.Invoice
table_of (Some spaces.UblCreditNote) = document_type.CreditNote
table_of _ = document_type.Cii

abbrev pub document_type_of : List Row → DocumentType
document_type_of rows = table_of (root_namespace rows)

abbrev pub is_ubl : DocumentType → Bool
is_ubl document_type.Invoice = true
is_ubl document_type.CreditNote = true
is_ubl document_type.Cii = false

-- the types of credit notes (UNTDID 1001)
abbrev pub is_credit_note : List ℕ → Bool
is_credit_note code = bytes_eq (codes "381") code || bytes_eq (codes "396") code

abbrev pub invoice_type : Term
invoice_type = record { number = 3; part = 0 }

abbrev pub is_credit_note_value : Option Value → Bool
is_credit_note_value None = false
is_credit_note_value (Some value) = is_credit_note (spelled value)

abbrev pub ubl_table : Bool → DocumentType
ubl_table true = document_type.CreditNote
ubl_table false = document_type.Invoice

-- in UBL a credit note where BT-3 is one of those types, else an invoice
abbrev pub target : List Entry → Syntax → DocumentType
target es syntaxes.Ubl = ubl_table (is_credit_note_value (value_in es invoice_type root_context))
target es syntaxes.Cii = document_type.Cii
