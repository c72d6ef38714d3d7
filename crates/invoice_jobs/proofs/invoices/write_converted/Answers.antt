use Rattle.std.proofs.Common.{ap, ◌∙◌}
use Rattle.bind_run.specs.Extensions.{rows_for}
use Rattle.job_protocol.proofs.Ends.{memory_here}
use Rattle.invoice_jobs.specs.Invoices.{given_of, converted}
use Rattle.invoice_jobs.proofs.invoices.write_converted.Goals as goal

pub write_by-status-requires-clause-table : goal.write_by-status-requires-clause-table
write_by-status-requires-clause-table g c =
    c.as_ref.ensures ∙ (c.in-Ok.ensures ∙ (c.requires.tables c.target-document_type.result ∙ ap (rows_for c.args.loaded.now.reading_profile.extension)
    c.target-document_type.ensures))

pub returns-in-Err : goal.returns-in-Err
returns-in-Err g c = λ shelf.
    memory_here (converted c.args.syntax (given_of c.args.loaded.now)) shelf (g.O.Sink.view c.args.out.now) (g.E.Sink.view c.args.err.now)
