use Rattle.bind_meaning.specs.Tables.{rows_of}
use Rattle.address_laws.proofs.Documents.{document-tree}
use Rattle.address_laws.proofs.Tables.{addressed, laid}
use Rattle.address_laws.proofs.laws.documents_by_the_tables_are_trees_of_leaves.Goals as goal

pub returns : goal.returns
returns c document_type es invoice =
    document-tree (rows_of document_type) es invoice.placed (laid c.invoice_is_writable.ensures c.credit_note_is_writable.ensures c.cii_is_writable.ensures
    document_type) (addressed document_type)
