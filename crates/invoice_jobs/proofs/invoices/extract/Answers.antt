use Rattle.invoice_jobs.specs.Invoices.{extracted}
use Rattle.invoice_jobs.proofs.invoices.extract.Goals as goal

pub returns-in-Ok : goal.returns-in-Ok
returns-in-Ok g c =
    c.in-Ok.ensures.goes_on (λ given. extracted c.args.number given.read) (g.S.Shelf.view c.load.new.shelf) (g.O.Sink.view c.args.out.now)
    (g.O.Sink.view c.write_attachment.new.out)
    (g.E.Sink.view c.write_attachment.new.err) c.write_attachment.result (c.write_attachment.ensures (g.S.Shelf.view c.load.new.shelf))
