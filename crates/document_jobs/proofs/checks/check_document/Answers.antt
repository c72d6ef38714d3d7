use Rattle.std.proofs.Common.{map}
use Rattle.document_jobs.specs.Checks.{chosen_of, judged_next, report_asked}
use Rattle.document_jobs.proofs.CheckLemmas.{check_reported}
use Rattle.document_jobs.proofs.checks.check_document.Goals as goal

pub returns-in-Err : goal.returns-in-Err
returns-in-Err g c = c.in-Err.ensures.failed (judged_next (report_asked c.args.asked.now) (map chosen_of c.args.chosen.now)) (g.O.Sink.view c.args.out.now)

pub returns : goal.returns
returns g c =
    let asked = c.args.asked.now in
    check_reported (report_asked asked) asked.file.now (map chosen_of c.args.chosen.now) (g.S.Shelf.view c.args.shelf.now)
    (g.S.Shelf.view c.load_document.new.shelf)
    (g.O.Sink.view c.args.out.now) (g.O.Sink.view c.report.new.out) (g.E.Sink.view c.args.err.now)
    (g.E.Sink.view c.load_document.new.err) c.report.result c.in-Ok.doc
    c.in-Ok.ensures.read c.in-Ok.ensures.quiet c.in-Ok.ensures.loaded c.report.ensures
