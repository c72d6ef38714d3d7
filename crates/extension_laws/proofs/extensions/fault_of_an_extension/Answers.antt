use Rattle.std.specs.Prelude.{◌≡◌, Ok}
use Rattle.bind_rows.specs.declared.tables.DocumentType.{DocumentType}
use Rattle.bind_rows.specs.declared.tables.DocumentType.TheVariants as document_type
use Rattle.bind_table.specs.WellFormed.{first_fault}
use Rattle.bind_meaning.specs.Tables.{rows_of}
use Rattle.extension_laws.proofs.FaultyLemmas.{extension-fault}
use Rattle.extension_laws.proofs.extensions.fault_of_an_extension.Goals as goal

each-formed : first_fault (rows_of document_type.Invoice) ≡ Ok tt → first_fault (rows_of document_type.CreditNote) ≡ Ok tt
    → first_fault (rows_of document_type.Cii) ≡ Ok tt
    → (table : DocumentType) → first_fault (rows_of table) ≡ Ok tt
each-formed a b c document_type.Invoice = a
each-formed a b c document_type.CreditNote = b
each-formed a b c document_type.Cii = c

pub returns : goal.returns
returns c = extension-fault (each-formed c.invoice_is_well_formed.ensures c.credit_note_is_well_formed.ensures c.cii_is_well_formed.ensures)
