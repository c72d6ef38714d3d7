-- The three tables are whole: computed.
use Rattle.std.proofs.Common.{◌≡◌, true, refl}
use Rattle.inv_base.specs.Characters.{is_white_space}
use Rattle.term_table.specs.SemanticModel.{terms, extension_rows, listing_rows}
use Rattle.term_table.specs.Groups.{parent_of, occurrence_of}
use Rattle.ubl_binding.specs.Tables.{invoice_listing, invoice_rows, credit_note_listing, credit_note_rows}
use Rattle.cii_binding.specs.Table.{cii_listing, cii_rows}
use Rattle.bind_rows.specs.declared.tables.DocumentType.{DocumentType}
use Rattle.bind_rows.specs.declared.tables.DocumentType.TheVariants as document_type
use Rattle.bind_meaning.specs.Tables.{rows_of}
use Rattle.whole_laws.specs.Whole.{is_whole}

whole-invoice : is_whole invoice_rows ≡ true
unfolding is_white_space terms extension_rows listing_rows parent_of occurrence_of invoice_listing invoice_rows
whole-invoice = refl

whole-credit_note : is_whole credit_note_rows ≡ true
unfolding is_white_space terms extension_rows listing_rows parent_of occurrence_of credit_note_listing credit_note_rows
whole-credit_note = refl

whole-cii : is_whole cii_rows ≡ true
unfolding is_white_space terms extension_rows listing_rows parent_of occurrence_of cii_listing cii_rows
whole-cii = refl

pub whole-each : (table : DocumentType) → is_whole (rows_of table) ≡ true
whole-each document_type.Invoice = whole-invoice
whole-each document_type.CreditNote = whole-credit_note
whole-each document_type.Cii = whole-cii
