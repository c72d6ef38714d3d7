use Rattle.std.proofs.Common.{sym}
use Rattle.held_rules.specs.Texts.{seen_ready}
use Rattle.job_protocol.proofs.Ends.{memory_here}
use Rattle.bind_run.specs.Reading.{found_report}
use Rattle.validation_jobs.specs.Validation.{text_asked, judged_next}
use Rattle.validation_jobs.proofs.ValidationLemmas.{document_judged, document_unjudged}
use Rattle.validation_jobs.proofs.validating.judge_document.Goals as goal

pub report-status-requires-clause-ready : goal.report-status-requires-clause-ready
report-status-requires-clause-ready g c = c.in-Ok-Some.ensures.ready c.in-Ok-Some.ready c.in-Ok-Some.field-0-is

pub returns-in-Ok-Some : goal.returns-in-Ok-Some
returns-in-Ok-Some g c = λ content lines shelf.
    document_judged (text_asked c.args.asked.now) content c.args.placed.now.doc shelf (found_report c.args.reading_report.now) (seen_ready c.in-Ok-Some.ready)
    (g.O.Sink.view c.args.out.now)
    (g.O.Sink.view c.report-status.new.out) (g.E.Sink.view c.args.err.now) (g.E.Sink.view c.args.err.now) c.report-status.result
    (sym (rw c.in-Ok-Some.field-0-is at c.in-Ok-Some.ensures.rules))
    (c.report-status.ensures content lines shelf (g.E.Sink.view c.args.err.now))

pub returns-in-Ok-None : goal.returns-in-Ok-None
returns-in-Ok-None g c = λ content lines shelf.
    document_unjudged (text_asked c.args.asked.now) content c.args.placed.now.doc shelf (found_report c.args.reading_report.now) (g.O.Sink.view c.args.out.now)
    (g.E.Sink.view c.args.err.now)
    (g.E.Sink.view c.tell_not_built_in.new.err) (sym (rw c.in-Ok-None.field-0-is at c.in-Ok-None.ensures.rules)) c.tell_not_built_in.ensures

pub returns-in-Err : goal.returns-in-Err
returns-in-Err g c = λ content lines shelf.
    memory_here (judged_next (text_asked c.args.asked.now) content c.args.placed.now.doc (found_report c.args.reading_report.now)) shelf (g.O.Sink.view
    c.args.out.now)
    (g.E.Sink.view c.args.err.now)
