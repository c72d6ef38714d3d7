use Rattle.job_protocol.proofs.FileLemmas.{lists_failed}
use Rattle.job_protocol.proofs.files.take_lists.Goals as goal

pub returns-in-Err-found-clause-failed : goal.returns-in-Err-found-clause-failed
returns-in-Err-found-clause-failed g c = λ next out.
    let taken = c.in-Ok.ensures in
    lists_failed c.args.name.now (g.S.Shelf.view c.args.shelf.now) (g.S.Shelf.view c.take_file.new.shelf) out (g.E.Sink.view c.args.err.now)
    (g.E.Sink.view c.take_file.new.err) (g.E.Sink.view c.refuse_lists-status.new.err) c.in-Ok.bytes.items taken.goes_on next c.in-Err-found.fault
    c.refuse_lists-status.result taken.read taken.quiet (rw c.as_slice.ensures.value at c.in-Err-found.ensures.fault) c.refuse_lists-status.ensures
