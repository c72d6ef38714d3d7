use Rattle.reading_laws.proofs.InvoiceLemmas.{read-invoice, table-read, document-read}
use Rattle.reading_laws.proofs.read_invoices_are_valid.Goals as goal

pub returns-clause-rows : goal.returns-clause-rows
returns-clause-rows c = read-invoice c.read_values_fit_their_terms.ensures c.read_invoices_lack_nothing.ensures

pub returns-clause-tables : goal.returns-clause-tables
returns-clause-tables c =
    table-read c.read_values_fit_their_terms.ensures c.read_invoices_lack_nothing.ensures c.invoice_is_well_formed.ensures c.credit_note_is_well_formed.ensures
    c.cii_is_well_formed.ensures

pub returns-clause-documents : goal.returns-clause-documents
returns-clause-documents c =
    document-read c.read_values_fit_their_terms.ensures c.read_invoices_lack_nothing.ensures c.invoice_is_well_formed.ensures
    c.credit_note_is_well_formed.ensures c.cii_is_well_formed.ensures
