-- The three tables are laid, and none of their attributes is a note with a code.
use Rattle.std.proofs.Common.{◌≡◌, true, refl}
use Rattle.std.specs.List.{list_all}
use Rattle.bind_table.specs.Laid.{is_writable}
use Rattle.bind_rows.specs.declared.tables.DocumentType.{DocumentType}
use Rattle.bind_rows.specs.declared.tables.DocumentType.TheVariants as document_type
use Rattle.bind_meaning.specs.Tables.{rows_of}
use Rattle.bind_write.specs.Sources.{has_plain_attribute}
use Rattle.ubl_binding.specs.Tables.{invoice_rows, credit_note_rows, invoice_listing, credit_note_listing}
use Rattle.cii_binding.specs.Table.{cii_rows, cii_listing}

pub laid : is_writable invoice_rows ≡ true → is_writable credit_note_rows ≡ true → is_writable cii_rows ≡ true → (w : DocumentType) → is_writable (rows_of w)
    ≡ true
laid a b c document_type.Invoice = a
laid a b c document_type.CreditNote = b
laid a b c document_type.Cii = c

notes-invoice : list_all has_plain_attribute invoice_rows ≡ true
unfolding invoice_rows invoice_listing
notes-invoice = refl

notes-credit_note : list_all has_plain_attribute credit_note_rows ≡ true
unfolding credit_note_rows credit_note_listing
notes-credit_note = refl

notes-cii : list_all has_plain_attribute cii_rows ≡ true
unfolding cii_rows cii_listing
notes-cii = refl

pub notes : (w : DocumentType) → list_all has_plain_attribute (rows_of w) ≡ true
notes document_type.Invoice = notes-invoice
notes document_type.CreditNote = notes-credit_note
notes document_type.Cii = notes-cii
