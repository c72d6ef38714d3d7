-- The three tables pass the tests: computed.
use Rattle.std.proofs.Common.{◌≡◌, true, Some, refl}
use lib.Utf8.{encode}
use Rattle.inv_base.specs.Characters.{is_char, is_name_start, is_name_char}
use Rattle.ubl_binding.specs.Tables.{invoice_listing, invoice_rows, credit_note_listing, credit_note_rows}
use Rattle.cii_binding.specs.Table.{cii_listing, cii_rows}
use Rattle.bind_table.specs.Lines.{plan_of}
use Rattle.bind_rows.specs.declared.tables.DocumentType.{DocumentType}
use Rattle.bind_rows.specs.declared.tables.DocumentType.TheVariants as document_type
use Rattle.bind_meaning.specs.Tables.{rows_of}
use Rattle.written_laws.specs.Readable.{is_readable, reading_limits, shows, invoice_number}
use Rattle.written_laws.specs.Roots.{root_table}

readable-invoice : is_readable reading_limits invoice_rows ≡ true
unfolding encode is_char is_name_start is_name_char invoice_listing invoice_rows
readable-invoice = refl

readable-credit_note : is_readable reading_limits credit_note_rows ≡ true
unfolding encode is_char is_name_start is_name_char credit_note_listing credit_note_rows
readable-credit_note = refl

readable-cii : is_readable reading_limits cii_rows ≡ true
unfolding encode is_char is_name_start is_name_char cii_listing cii_rows
readable-cii = refl

shows-invoice : shows invoice_number (plan_of invoice_rows) ≡ true
unfolding invoice_listing invoice_rows
shows-invoice = refl

shows-credit_note : shows invoice_number (plan_of credit_note_rows) ≡ true
unfolding credit_note_listing credit_note_rows
shows-credit_note = refl

shows-cii : shows invoice_number (plan_of cii_rows) ≡ true
unfolding cii_listing cii_rows
shows-cii = refl

root-invoice : root_table invoice_rows ≡ Some document_type.Invoice
unfolding invoice_listing invoice_rows
root-invoice = refl

root-credit_note : root_table credit_note_rows ≡ Some document_type.CreditNote
unfolding credit_note_listing credit_note_rows
root-credit_note = refl

root-cii : root_table cii_rows ≡ Some document_type.Cii
unfolding cii_listing cii_rows
root-cii = refl

pub all-readable : (table : DocumentType) → is_readable reading_limits (rows_of table) ≡ true
all-readable document_type.Invoice = readable-invoice
all-readable document_type.CreditNote = readable-credit_note
all-readable document_type.Cii = readable-cii

pub all-show : (table : DocumentType) → shows invoice_number (plan_of (rows_of table)) ≡ true
all-show document_type.Invoice = shows-invoice
all-show document_type.CreditNote = shows-credit_note
all-show document_type.Cii = shows-cii

pub all-told : (table : DocumentType) → root_table (rows_of table) ≡ Some table
all-told document_type.Invoice = root-invoice
all-told document_type.CreditNote = root-credit_note
all-told document_type.Cii = root-cii
