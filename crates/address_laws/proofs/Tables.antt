-- The three tables.
use Rattle.std.specs.Prelude.{◌≡◌, Bool, true, false, ◌&&◌}
use Rattle.std.proofs.Common.{refl}
use Rattle.std.specs.List.{list_all}
use Rattle.bind_rows.specs.declared.tables.DocumentType.{DocumentType}
use Rattle.bind_rows.specs.declared.tables.DocumentType.TheVariants as variants
use Rattle.bind_table.specs.Lines.{plan_of}
use Rattle.bind_table.specs.Laid.{is_writable}
use Rattle.bind_meaning.specs.Tables.{rows_of}
use Rattle.ubl_binding.specs.Tables.{invoice_listing, invoice_rows, credit_note_listing, credit_note_rows}
use Rattle.cii_binding.specs.Table.{cii_listing, cii_rows}
use Rattle.term_table.specs.SemanticModel.{terms, extension_rows, listing_rows}
use Rattle.term_table.specs.Groups.{parent_of, occurrence_of}
use Rattle.address_laws.specs.Addressed.{row_fits, constants_fit, is_addressed}

pub invoice-constants : constants_fit true false (plan_of invoice_rows) ≡ true
unfolding invoice_listing invoice_rows
invoice-constants = refl

pub credit_note-constants : constants_fit true false (plan_of credit_note_rows) ≡ true
unfolding credit_note_listing credit_note_rows
credit_note-constants = refl

pub cii-constants : constants_fit true false (plan_of cii_rows) ≡ true
unfolding cii_listing cii_rows
cii-constants = refl

pub invoice-rows : list_all row_fits invoice_rows ≡ true
unfolding invoice_listing invoice_rows terms extension_rows listing_rows parent_of occurrence_of
invoice-rows = refl

pub credit_note-rows : list_all row_fits credit_note_rows ≡ true
unfolding credit_note_listing credit_note_rows terms extension_rows listing_rows parent_of occurrence_of
credit_note-rows = refl

pub cii-rows : list_all row_fits cii_rows ≡ true
unfolding cii_listing cii_rows terms extension_rows listing_rows parent_of occurrence_of
cii-rows = refl

both : (a b : Bool) → a ≡ true → b ≡ true → (a && b) ≡ true
both true b e f = f
both false b e f = e

pub addressed : (document_type : DocumentType) → is_addressed (rows_of document_type) ≡ true
addressed variants.Invoice = both (list_all row_fits invoice_rows) (constants_fit true false (plan_of invoice_rows)) invoice-rows invoice-constants
addressed variants.CreditNote = both (list_all row_fits credit_note_rows)
    (constants_fit true false (plan_of credit_note_rows)) credit_note-rows credit_note-constants
addressed variants.Cii = both (list_all row_fits cii_rows) (constants_fit true false (plan_of cii_rows)) cii-rows cii-constants

pub laid : is_writable invoice_rows ≡ true → is_writable credit_note_rows ≡ true → is_writable cii_rows ≡ true → (document_type : DocumentType)
    → is_writable (rows_of document_type) ≡ true
laid i n c variants.Invoice = i
laid i n c variants.CreditNote = n
laid i n c variants.Cii = c
