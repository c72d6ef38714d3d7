use Rattle.std.proofs.Common.{subst}
use Rattle.node_arena.specs.Document.{Document}
use Rattle.invoice_jobs.specs.Sources.{profile_of}
use Rattle.job_protocol.specs.Runs.{Runs}
use Rattle.job_protocol.proofs.Ends.{behind_told}
use Rattle.validation_jobs.specs.Validation.{text_asked, document_next, found_next}
use Rattle.validation_jobs.proofs.validating.validate_file.Goals as goal

pub returns-in-Ok : goal.returns-in-Ok
returns-in-Ok g c =
    let file = c.args.asked.now.file.now in
    let reading_profile = profile_of c.args.reading_profile.now in
    let found = c.in-Ok.ensures.loaded.loaded in
    let mid = g.S.Shelf.view c.load_placed.new.shelf in
    let mid_err = g.E.Sink.view c.load_placed.new.err in
    let out = g.O.Sink.view c.args.out.now in
    let out' = g.O.Sink.view c.validate_document-status.new.out in
    let err' = g.E.Sink.view c.validate_document-status.new.err in
    let status = c.validate_document-status.result in
    behind_told file (g.S.Shelf.view c.args.shelf.now) mid mid out out'
    (g.E.Sink.view c.args.err.now) mid_err err' status c.in-Ok.ensures.read c.in-Ok.ensures.quiet
    (found_next (text_asked c.args.asked.now) file reading_profile) c.in-Ok.placed.doc found
    (subst (λ (d : Document). Runs (document_next (text_asked c.args.asked.now) file reading_profile found.content d)
    (record { shelf = mid; out = out; err = mid_err })
    (record { shelf = mid; out = out'; err = err' }) status)
    found.exactly (c.validate_document-status.ensures found.content c.in-Ok.ensures.loaded.placed mid))
