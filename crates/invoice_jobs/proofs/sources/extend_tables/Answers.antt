use Rattle.bind_run.specs.Extensions.{judged, rows_for}
use Rattle.invoice_jobs.proofs.SourceLemmas.{row_refused}
use Rattle.invoice_jobs.proofs.sources.extend_tables.Goals as goal

pub returns-in-Err-clause-refused : goal.returns-in-Err-clause-refused
returns-in-Err-clause-refused g c =
    row_refused c.in-Err.fault (judged (rows_for c.args.extension)) c.args.file.now c.refuse_tables.result (g.E.Sink.view c.args.err.now)
    (g.E.Sink.view c.refuse_tables.new.err)
    c.in-Err.ensures.fault c.refuse_tables.ensures
