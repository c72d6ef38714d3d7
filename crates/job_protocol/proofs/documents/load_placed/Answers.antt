use Rattle.job_protocol.proofs.FileLemmas.{document_failed}
use Rattle.job_protocol.proofs.documents.load_placed.Goals as goal

pub returns-in-Ok-clause-loaded : goal.returns-in-Ok-clause-loaded
returns-in-Ok-clause-loaded g c =
    let found = c.in-Ok.ensures.loaded in
    record { loaded = found.sized.loaded; placed = found.given c.new-lines.ensures }

pub returns-in-Err-clause-failed : goal.returns-in-Err-clause-failed
returns-in-Err-clause-failed g c = λ next out.
    let found = c.in-Err.ensures in
    document_failed c.args.name.now (g.S.Shelf.view c.args.shelf.now) (g.S.Shelf.view c.load_giving.new.shelf) out (g.E.Sink.view c.args.err.now)
    (g.E.Sink.view c.refuse_document.new.err) next c.in-Err.fault c.refuse_document.result found.reads
    (λ fault is. found.refused fault cc) (λ fault is. found.stops fault cc) c.refuse_document.ensures
