use Rattle.std.proofs.Common.{◌∙◌, sym}
use Rattle.invoice_jobs.specs.Sources.{profile_of}
use Rattle.invoice_jobs.specs.Invoices.{read_of}
use Rattle.invoice_jobs.proofs.InvoiceLemmas.{behind_whole, whole_lost, whole_refused}
use Rattle.invoice_jobs.proofs.invoices.load_whole_invoice.Goals as goal

pub returns-in-None-clause-goes_on : goal.returns-in-None-clause-goes_on
returns-in-None-clause-goes_on g c =
    behind_whole c.args.file.now (profile_of c.args.reading_profile.now) c.args.reading_profile.now.tables c.requires.tables c.in-Ok.doc
    (g.S.Shelf.view c.args.shelf.now) (g.S.Shelf.view c.load_document.new.shelf)
    (g.E.Sink.view c.args.err.now) (g.E.Sink.view c.load_document.new.err) c.in-Ok.ensures.read c.in-Ok.ensures.quiet c.in-Ok.ensures.loaded
    (read_of c.in-Ok-read_document_whole.field-0.read) c.in-Ok-read_document_whole.ensures.reads.0
    (sym c.in-Ok-read_document_whole.ensures.reads.1 ∙ c.in-None.is)

pub returns-in-Ok-read_document_whole-clause-fails : goal.returns-in-Ok-read_document_whole-clause-fails
returns-in-Ok-read_document_whole-clause-fails g c =
    whole_lost c.args.file.now (profile_of c.args.reading_profile.now) c.args.reading_profile.now.tables c.requires.tables c.in-Ok.doc
    (g.S.Shelf.view c.args.shelf.now) (g.S.Shelf.view c.load_document.new.shelf)
    (g.E.Sink.view c.args.err.now) (g.E.Sink.view c.load_document.new.err) c.in-Ok.ensures.read c.in-Ok.ensures.quiet c.in-Ok.ensures.loaded
    (read_of c.in-Ok-read_document_whole.field-0.read) c.in-Some.n (g.E.Sink.view c.tell_loss.new.err) c.in-Ok-read_document_whole.ensures.reads.0
    (sym c.in-Ok-read_document_whole.ensures.reads.1 ∙ c.in-Some.is) c.tell_loss.ensures

pub returns-clause-fails : goal.returns-clause-fails
returns-clause-fails g c =
    whole_refused c.args.file.now (profile_of c.args.reading_profile.now) c.args.reading_profile.now.tables c.requires.tables c.in-Ok.doc
    (g.S.Shelf.view c.args.shelf.now) (g.S.Shelf.view c.load_document.new.shelf)
    (g.E.Sink.view c.args.err.now) (g.E.Sink.view c.load_document.new.err) c.in-Ok.ensures.read c.in-Ok.ensures.quiet c.in-Ok.ensures.loaded
    c.in-Err-read_document_whole.fault c.refuse_invoice.result (g.E.Sink.view c.refuse_invoice.new.err) c.in-Err-read_document_whole.ensures.reads
    c.refuse_invoice.ensures
