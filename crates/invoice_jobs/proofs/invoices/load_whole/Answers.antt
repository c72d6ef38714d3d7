use Rattle.invoice_jobs.specs.Sources.{profile_of, sources_of}
use Rattle.invoice_jobs.specs.Invoices.{read_of}
use Rattle.invoice_jobs.proofs.InvoiceLemmas.{no_whole_profile, whole_goes_on, whole_fails}
use Rattle.invoice_jobs.proofs.invoices.load_whole.Goals as goal

pub returns-in-Err-clause-fails : goal.returns-in-Err-clause-fails
returns-in-Err-clause-fails g c =
    no_whole_profile (sources_of c.args.sources.now) c.args.file.now c.in-Err.status (g.S.Shelf.view c.args.shelf.now) (g.S.Shelf.view c.load_profile.new.shelf)
    (g.E.Sink.view c.args.err.now) (g.E.Sink.view c.load_profile.new.err) c.in-Err.ensures.fails

pub returns-in-Ok-load_whole_invoice-clause-goes_on : goal.returns-in-Ok-load_whole_invoice-clause-goes_on
returns-in-Ok-load_whole_invoice-clause-goes_on g c =
    whole_goes_on (sources_of c.args.sources.now) c.args.file.now (profile_of c.in-Ok.reading_profile) (g.S.Shelf.view c.args.shelf.now)
    (g.S.Shelf.view c.load_profile.new.shelf)
    (g.S.Shelf.view c.load_whole_invoice.new.shelf) (g.E.Sink.view c.args.err.now) (g.E.Sink.view c.load_profile.new.err)
    (g.E.Sink.view c.load_whole_invoice.new.err)
    c.in-Ok.ensures.goes_on (read_of c.in-Ok-load_whole_invoice.read) c.in-Ok-load_whole_invoice.ensures.goes_on

pub returns-in-Err-load_whole_invoice-clause-fails : goal.returns-in-Err-load_whole_invoice-clause-fails
returns-in-Err-load_whole_invoice-clause-fails g c =
    whole_fails (sources_of c.args.sources.now) c.args.file.now (profile_of c.in-Ok.reading_profile) (g.S.Shelf.view c.args.shelf.now)
    (g.S.Shelf.view c.load_profile.new.shelf)
    (g.S.Shelf.view c.load_whole_invoice.new.shelf) (g.E.Sink.view c.args.err.now) (g.E.Sink.view c.load_profile.new.err)
    (g.E.Sink.view c.load_whole_invoice.new.err)
    c.in-Ok.ensures.goes_on c.in-Err-load_whole_invoice.status c.in-Err-load_whole_invoice.ensures.fails
