use Rattle.invoice_jobs.specs.Sources.{profile_of}
use Rattle.invoice_jobs.specs.Invoices.{read_of}
use Rattle.invoice_jobs.proofs.InvoiceLemmas.{behind_invoice, invoice_refused}
use Rattle.invoice_jobs.proofs.invoices.load_invoice.Goals as goal

pub returns-in-Ok-read_document-clause-goes_on : goal.returns-in-Ok-read_document-clause-goes_on
returns-in-Ok-read_document-clause-goes_on g c =
    behind_invoice c.args.file.now (profile_of c.args.reading_profile.now) c.args.reading_profile.now.tables c.requires.tables c.in-Ok.doc (g.S.Shelf.view
    c.args.shelf.now)
    (g.S.Shelf.view c.load_document.new.shelf)
    (g.E.Sink.view c.args.err.now) (g.E.Sink.view c.load_document.new.err) c.in-Ok.ensures.read c.in-Ok.ensures.quiet c.in-Ok.ensures.loaded
    (read_of c.in-Ok-read_document.read) c.in-Ok-read_document.ensures.reads

pub returns-clause-fails : goal.returns-clause-fails
returns-clause-fails g c =
    invoice_refused c.args.file.now (profile_of c.args.reading_profile.now) c.args.reading_profile.now.tables c.requires.tables c.in-Ok.doc (g.S.Shelf.view
    c.args.shelf.now)
    (g.S.Shelf.view c.load_document.new.shelf)
    (g.E.Sink.view c.args.err.now) (g.E.Sink.view c.load_document.new.err) c.in-Ok.ensures.read c.in-Ok.ensures.quiet c.in-Ok.ensures.loaded
    c.in-Err-read_document.fault c.refuse_invoice.result (g.E.Sink.view c.refuse_invoice.new.err) c.in-Err-read_document.ensures.reads c.refuse_invoice.ensures
