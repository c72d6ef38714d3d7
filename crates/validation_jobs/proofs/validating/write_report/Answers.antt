use Rattle.std.proofs.Common.{inl, inr, refl}
use Rattle.job_protocol.specs.declared.status.Status.TheVariants as statuses
use Rattle.validation_jobs.specs.Validation.{text_asked}
use Rattle.validation_jobs.proofs.ValidationLemmas.{report_written}
use Rattle.validation_jobs.proofs.validating.write_report.Goals as goal

pub returns-in-Ok : goal.returns-in-Ok
returns-in-Ok g c = λ shelf err.
    report_written (text_asked c.args.asked.now) c.args.validation.now c.status_of.result shelf (g.O.Sink.view c.args.out.now)
    (g.O.Sink.view c.write_text.new.out) err
    (inl (c.status_of.ensures, c.in-Ok.ensures))

pub returns-in-Err : goal.returns-in-Err
returns-in-Err g c = λ shelf err.
    report_written (text_asked c.args.asked.now) c.args.validation.now statuses.WriteFault shelf (g.O.Sink.view c.args.out.now)
    (g.O.Sink.view c.write_text.new.out) err
    (inr (refl, c.in-Err.ensures))
