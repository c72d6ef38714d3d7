use Rattle.std.proofs.Common.{map, option_map}
use Rattle.job_protocol.specs.Views.{text_of}
use Rattle.document_jobs.specs.Checks.{named_of, chosen_of, phase_asked, report_asked}
use Rattle.document_jobs.proofs.CheckLemmas.{check_unphased, behind_phases}
use Rattle.document_jobs.proofs.checks.check_with.Goals as goal

pub returns-in-Err : goal.returns-in-Err
returns-in-Err g c =
    let asked = c.args.asked.now in
    check_unphased (report_asked asked) (phase_asked (option_map text_of asked.phase)) asked.file.now (map named_of c.args.files.now) c.in-Err.status
    (g.S.Shelf.view c.args.shelf.now)
    (g.O.Sink.view c.args.out.now) (g.E.Sink.view c.args.err.now) (g.E.Sink.view c.choose.new.err) (rw c.phase_asked.ensures at c.in-Err.ensures.fails)

pub returns-in-Ok : goal.returns-in-Ok
returns-in-Ok g c =
    let asked = c.args.asked.now in
    behind_phases (report_asked asked) (phase_asked (option_map text_of asked.phase)) asked.file.now (map named_of c.args.files.now)
    (map chosen_of c.in-Ok.chosen.items)
    (g.S.Shelf.view c.args.shelf.now) (g.S.Shelf.view c.check_document-status.new.shelf) (g.O.Sink.view c.args.out.now)
    (g.O.Sink.view c.check_document-status.new.out)
    (g.E.Sink.view c.args.err.now) (g.E.Sink.view c.choose.new.err) (g.E.Sink.view c.check_document-status.new.err) c.check_document-status.result
    (rw c.phase_asked.ensures at c.in-Ok.ensures.chosen) c.in-Ok.ensures.quiet (rw c.deref.ensures.value at c.check_document-status.ensures)
