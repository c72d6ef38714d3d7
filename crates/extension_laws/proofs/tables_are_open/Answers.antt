use Rattle.std.proofs.Common.{◌≡◌, true}
use Rattle.bind_rows.specs.declared.tables.DocumentType.{DocumentType}
use Rattle.bind_rows.specs.declared.tables.DocumentType.TheVariants as document_type
use Rattle.bind_meaning.specs.Tables.{rows_of}
use Rattle.binding_laws.specs.Faultless.{is_faultless}
use Rattle.extension_laws.proofs.OpenTables.{long-each, covered-each, joined-each, paired-each, document_type-each, room-each}
use Rattle.extension_laws.proofs.tables_are_open.Goals as goal

each-faultless : is_faultless (rows_of document_type.Invoice) ≡ true → is_faultless (rows_of document_type.CreditNote) ≡ true
    → is_faultless (rows_of document_type.Cii) ≡ true
    → (table : DocumentType) → is_faultless (rows_of table) ≡ true
each-faultless a b c document_type.Invoice = a
each-faultless a b c document_type.CreditNote = b
each-faultless a b c document_type.Cii = c

pub returns-clause-open_table : goal.returns-clause-open_table
returns-clause-open_table c = λ table. record {
  long = long-each table;
  covered = covered-each table;
  joined = joined-each table;
  paired = paired-each table;
  faultless =
      each-faultless c.tables_leave_terms_out.ensures.invoice.2 c.tables_leave_terms_out.ensures.credit_note.2
      c.tables_leave_terms_out.ensures.cii.2 table;
  complete = c.tables_are_complete.ensures.complete table;
  readable = c.tables_are_readable.ensures.readable table;
  shows = c.tables_are_readable.ensures.shows table;
  root = c.roots_tell_their_tables.ensures.tables table;
  document_type = document_type-each table;
  laid = c.tables_are_laid.ensures.laid table;
  notes = c.tables_are_laid.ensures.notes table;
}

pub returns-clause-room : goal.returns-clause-room
returns-clause-room c = room-each
