-- The rows of the three tables.
use Rattle.std.specs.Prelude.{List}
use Rattle.bind_rows.specs.declared.rows.Row.{Row}
use Rattle.ubl_binding.specs.Tables.{invoice_rows, credit_note_rows}
use Rattle.cii_binding.specs.Table.{cii_rows}
use Rattle.bind_rows.specs.declared.tables.DocumentType.{DocumentType}
use Rattle.bind_rows.specs.declared.tables.DocumentType.TheVariants as document_type

abbrev pub rows_of : DocumentType → List Row
rows_of document_type.Invoice = invoice_rows
rows_of document_type.CreditNote = credit_note_rows
rows_of document_type.Cii = cii_rows
