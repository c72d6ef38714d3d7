use Rattle.invoice_jobs.specs.Invoices.{converted}
use Rattle.invoice_jobs.proofs.invoices.convert_whole.Goals as goal

pub returns-in-Ok : goal.returns-in-Ok
returns-in-Ok g c =
    c.in-Ok.ensures.goes_on (converted c.args.syntax) (g.S.Shelf.view c.load_whole.new.shelf) (g.O.Sink.view c.args.out.now)
    (g.O.Sink.view c.write_converted.new.out)
    (g.E.Sink.view c.write_converted.new.err) c.write_converted.result (c.write_converted.ensures (g.S.Shelf.view c.load_whole.new.shelf))
