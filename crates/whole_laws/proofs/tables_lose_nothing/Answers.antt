use Rattle.std.specs.Prelude.{◌≡◌, Ok}
use Rattle.bind_rows.specs.declared.tables.DocumentType.{DocumentType}
use Rattle.bind_rows.specs.declared.tables.DocumentType.TheVariants as document_type
use Rattle.bind_table.specs.WellFormed.{first_fault}
use Rattle.bind_meaning.specs.Tables.{rows_of}
use Rattle.whole_laws.proofs.tables_lose_nothing.Goals as goal

each-formed : first_fault (rows_of document_type.Invoice) ≡ Ok tt → first_fault (rows_of document_type.CreditNote) ≡ Ok tt
    → first_fault (rows_of document_type.Cii) ≡ Ok tt
    → (table : DocumentType) → first_fault (rows_of table) ≡ Ok tt
each-formed a b c document_type.Invoice = a
each-formed a b c document_type.CreditNote = b
each-formed a b c document_type.Cii = c

pub returns-clause-document : goal.returns-clause-document
returns-clause-document c = λ table es lists.
    c.open_tables_lose_nothing.ensures table (rows_of table) es lists (c.tables_are_open.ensures.open_table table) (c.tables_are_whole.ensures table)
    (each-formed c.invoice_is_well_formed.ensures c.credit_note_is_well_formed.ensures c.cii_is_well_formed.ensures table)

pub returns-clause-text : goal.returns-clause-text
returns-clause-text c = λ syntax es lists.
    c.written_texts_are_whole.ensures.syntax rows_of syntax es lists
    (record {
      open_each = c.tables_are_open.ensures.open_table;
      formed = each-formed c.invoice_is_well_formed.ensures c.credit_note_is_well_formed.ensures c.cii_is_well_formed.ensures;
    }) c.tables_are_whole.ensures
