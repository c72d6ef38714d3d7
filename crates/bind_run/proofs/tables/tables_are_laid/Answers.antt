use Rattle.bind_run.proofs.TableLemmas.{laid, notes}
use Rattle.bind_run.proofs.tables.tables_are_laid.Goals as goal

pub returns : goal.returns
returns c = record {
  laid = laid c.invoice_is_writable.ensures c.credit_note_is_writable.ensures c.cii_is_writable.ensures;
  notes = notes;
}
