use Rattle.std.proofs.Common.{inl, inr, refl}
use Rattle.bind_carrying.specs.Tables.{target}
use Rattle.job_protocol.specs.declared.status.Status.TheVariants as statuses
use Rattle.invoice_jobs.specs.Invoices.{given_of}
use Rattle.invoice_jobs.proofs.InvoiceLemmas.{table_laid, table_notes, not_converted, is_converted}
use Rattle.invoice_jobs.proofs.invoices.write_by.Goals as goal

pub carries-requires-clause-laid : goal.carries-requires-clause-laid
carries-requires-clause-laid g c =
    table_laid c.args.loaded.now.reading_profile.extension c.requires.good (target c.args.loaded.now.read.invoice c.args.syntax) c.args.table.now
    c.requires.table
    c.extended_tables_are_laid.ensures.laid

pub carries-requires-clause-notes : goal.carries-requires-clause-notes
carries-requires-clause-notes g c =
    table_notes c.args.loaded.now.reading_profile.extension c.requires.good (target c.args.loaded.now.read.invoice c.args.syntax) c.args.table.now
    c.requires.table
    c.extended_tables_are_laid.ensures.notes

pub write-requires-clause-laid : goal.write-requires-clause-laid
write-requires-clause-laid g c =
    table_laid c.args.loaded.now.reading_profile.extension c.requires.good (target c.args.loaded.now.read.invoice c.args.syntax) c.args.table.now
    c.requires.table
    c.extended_tables_are_laid.ensures.laid

pub write-requires-clause-notes : goal.write-requires-clause-notes
write-requires-clause-notes g c =
    table_notes c.args.loaded.now.reading_profile.extension c.requires.good (target c.args.loaded.now.read.invoice c.args.syntax) c.args.table.now
    c.requires.table
    c.extended_tables_are_laid.ensures.notes

pub returns-in-Err : goal.returns-in-Err
returns-in-Err g c = λ shelf.
    not_converted c.args.syntax (given_of c.args.loaded.now) c.args.table.now c.requires.table shelf
    (g.O.Sink.view c.args.out.now) c.in-Err.fault (g.E.Sink.view c.args.err.now) (g.E.Sink.view c.tell_condition.new.err) c.in-Err.ensures
    c.tell_condition.ensures

pub returns-in-Ok-write : goal.returns-in-Ok-write
returns-in-Ok-write g c = λ shelf.
    is_converted c.args.syntax (given_of c.args.loaded.now) c.args.table.now c.requires.table shelf
    (g.O.Sink.view c.args.out.now) c.in-Ok.field-0 statuses.Done (g.O.Sink.view c.write.new.out) (g.E.Sink.view c.args.err.now) c.in-Ok.ensures
    (inl (refl, c.in-Ok-write.ensures))

pub returns-in-Err-write : goal.returns-in-Err-write
returns-in-Err-write g c = λ shelf.
    is_converted c.args.syntax (given_of c.args.loaded.now) c.args.table.now c.requires.table shelf
    (g.O.Sink.view c.args.out.now) c.in-Ok.field-0 statuses.WriteFault (g.O.Sink.view c.write.new.out) (g.E.Sink.view c.args.err.now) c.in-Ok.ensures
    (inr (refl, c.in-Err-write.ensures))
