use Rattle.std.proofs.Common.{subst}
use Rattle.job_protocol.specs.Runs.{Runs}
use Rattle.job_protocol.proofs.Ends.{memory_here}
use Rattle.inv_totals.specs.Totals.{differences}
use Rattle.invoice_jobs.specs.Totals.{totalled}
use Rattle.invoice_jobs.proofs.comparison.write_totals.Goals as goal

pub returns-in-Ok : goal.returns-in-Ok
returns-in-Ok g c = λ shelf err.
    subst (λ found. Runs (totalled c.args.format c.args.file.now found) (record { shelf = shelf; out = g.O.Sink.view c.args.out.now; err = err })
    (record { shelf = shelf; out = g.O.Sink.view c.write_found.new.out; err = err }) c.write_found.result)
    c.in-Ok.ensures (c.write_found.ensures shelf err)

pub returns-in-Err : goal.returns-in-Err
returns-in-Err g c = λ shelf err. memory_here (totalled c.args.format c.args.file.now (differences c.args.i.now)) shelf (g.O.Sink.view c.args.out.now) err
