use Rattle.invoice_jobs.specs.Totals.{compared}
use Rattle.invoice_jobs.proofs.comparison.totals.Goals as goal

pub returns-in-Ok : goal.returns-in-Ok
returns-in-Ok g c =
    c.in-Ok.ensures.goes_on (compared c.args.format c.args.file.now) (g.S.Shelf.view c.load.new.shelf) (g.O.Sink.view c.args.out.now)
    (g.O.Sink.view c.write_totals.new.out)
    (g.E.Sink.view c.load.new.err) c.write_totals.result (c.write_totals.ensures (g.S.Shelf.view c.load.new.shelf) (g.E.Sink.view c.load.new.err))
