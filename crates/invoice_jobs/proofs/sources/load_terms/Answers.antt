use Rattle.invoice_jobs.proofs.SourceLemmas.{extending_goes_on, extending_fails, terms_fail}
use Rattle.invoice_jobs.proofs.sources.load_terms.Goals as goal

pub returns-in-Ok-found-clause-goes_on : goal.returns-in-Ok-found-clause-goes_on
returns-in-Ok-found-clause-goes_on g c =
    extending_goes_on c.args.file.now c.in-Ok.bytes.items (g.S.Shelf.view c.args.shelf.now) (g.S.Shelf.view c.take_file.new.shelf)
    (g.E.Sink.view c.args.err.now)
    (g.E.Sink.view c.take_file.new.err) c.in-Ok.ensures.goes_on c.in-Ok-found.extension c.extend_tables.result (g.E.Sink.view c.extend_tables.new.err)
    (rw c.as_slice.ensures.value at c.in-Ok-found.ensures.ok) c.extend_tables.ensures.same c.extend_tables.ensures.good

pub returns-in-Ok-found-clause-fails : goal.returns-in-Ok-found-clause-fails
returns-in-Ok-found-clause-fails g c =
    extending_fails c.args.file.now c.in-Ok.bytes.items (g.S.Shelf.view c.args.shelf.now) (g.S.Shelf.view c.take_file.new.shelf) (g.E.Sink.view c.args.err.now)
    (g.E.Sink.view c.take_file.new.err) c.in-Ok.ensures.goes_on c.in-Ok.ensures.read c.in-Ok.ensures.quiet (g.E.Sink.view c.extend_tables.new.err)
    c.in-Ok-found.extension
    c.extend_tables.result (rw c.as_slice.ensures.value at c.in-Ok-found.ensures.ok) c.extend_tables.ensures.refused

pub returns-in-Err-found-clause-fails : goal.returns-in-Err-found-clause-fails
returns-in-Err-found-clause-fails g c =
    terms_fail c.args.file.now c.in-Ok.bytes.items (g.S.Shelf.view c.args.shelf.now) (g.S.Shelf.view c.take_file.new.shelf) (g.E.Sink.view c.args.err.now)
    (g.E.Sink.view c.take_file.new.err) c.in-Ok.ensures.goes_on c.in-Ok.ensures.read c.in-Ok.ensures.quiet (g.E.Sink.view c.refuse_extension-status.new.err)
    c.in-Err-found.fault
    c.refuse_extension-status.result (rw c.as_slice.ensures.value at c.in-Err-found.ensures.fault) c.refuse_extension-status.ensures
