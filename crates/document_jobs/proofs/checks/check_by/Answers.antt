use Rattle.std.proofs.Common.{option_map}
use Rattle.job_protocol.specs.Views.{text_of}
use Rattle.document_jobs.specs.Checks.{phase_asked, said_next, report_asked}
use Rattle.document_jobs.proofs.checks.check_by.Goals as goal

pub returns-in-Ok : goal.returns-in-Ok
returns-in-Ok g c =
    let asked = c.args.asked.now in
    c.in-Ok.ensures.goes_on (said_next (report_asked asked) (phase_asked (option_map text_of asked.phase)) asked.file.now)
    (g.S.Shelf.view c.check_with-status.new.shelf)
    (g.O.Sink.view c.args.out.now) (g.O.Sink.view c.check_with-status.new.out) (g.E.Sink.view c.check_with-status.new.err) c.check_with-status.result
    (rw c.deref.ensures.value at c.check_with-status.ensures)
