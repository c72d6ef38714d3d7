use Rattle.std.proofs.Common.{Bool, true, false, inl, inr, refl}
use Rattle.job_protocol.specs.Outside.{IsAccepted}
use Rattle.job_protocol.specs.declared.status.Status.TheVariants as statuses
use Rattle.job_protocol.proofs.Ends.{written_here}
use Rattle.inv_totals.specs.Totals.{is_nothing}
use Rattle.invoice_jobs.specs.Totals.{status_by, totals_text}
use Rattle.invoice_jobs.proofs.comparison.write_found.Goals as goal

accepted : (none : Bool) → IsAccepted (status_by none)
accepted true = tt
accepted false = tt

pub returns-in-Ok : goal.returns-in-Ok
returns-in-Ok g c = λ shelf err.
    written_here (status_by (is_nothing c.args.found.now)) c.status_of.result (totals_text c.args.format c.args.file.now c.args.found.now) shelf
    (g.O.Sink.view c.args.out.now)
    (g.O.Sink.view c.write_in.new.out) err
    (accepted (is_nothing c.args.found.now)) (inl (c.status_of.ensures, c.in-Ok.ensures))

pub returns-in-Err : goal.returns-in-Err
returns-in-Err g c = λ shelf err.
    written_here (status_by (is_nothing c.args.found.now)) statuses.WriteFault (totals_text c.args.format c.args.file.now c.args.found.now) shelf
    (g.O.Sink.view c.args.out.now)
    (g.O.Sink.view c.write_in.new.out) err
    (accepted (is_nothing c.args.found.now)) (inr (refl, c.in-Err.ensures))
