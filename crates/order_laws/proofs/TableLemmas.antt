-- The three tables are in order: computed.
use Rattle.std.proofs.Common.{◌≡◌, true, refl}
use Rattle.term_table.specs.SemanticModel.{terms, extension_rows, listing_rows}
use Rattle.ubl_binding.specs.Tables.{invoice_listing, invoice_rows, credit_note_listing, credit_note_rows}
use Rattle.cii_binding.specs.Table.{cii_listing, cii_rows}
use Rattle.bind_rows.specs.declared.tables.DocumentType.{DocumentType}
use Rattle.bind_rows.specs.declared.tables.DocumentType.TheVariants as document_type
use Rattle.bind_meaning.specs.Tables.{rows_of}
use Rattle.order_laws.specs.Order.{is_in_order}

invoice-in-order : is_in_order invoice_rows ≡ true
unfolding terms extension_rows listing_rows invoice_listing invoice_rows
invoice-in-order = refl

credit_note-in-order : is_in_order credit_note_rows ≡ true
unfolding terms extension_rows listing_rows credit_note_listing credit_note_rows
credit_note-in-order = refl

cii-in-order : is_in_order cii_rows ≡ true
unfolding terms extension_rows listing_rows cii_listing cii_rows
cii-in-order = refl

pub tables-in-order : (table : DocumentType) → is_in_order (rows_of table) ≡ true
tables-in-order document_type.Invoice = invoice-in-order
tables-in-order document_type.CreditNote = credit_note-in-order
tables-in-order document_type.Cii = cii-in-order
