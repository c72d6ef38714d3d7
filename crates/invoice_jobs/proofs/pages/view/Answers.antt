use Rattle.invoice_jobs.specs.Pages.{viewed}
use Rattle.invoice_jobs.proofs.pages.view.Goals as goal

pub returns-in-Ok : goal.returns-in-Ok
returns-in-Ok g c =
    c.in-Ok.ensures.goes_on viewed (g.S.Shelf.view c.load.new.shelf) (g.O.Sink.view c.args.out.now)
    (g.O.Sink.view c.write_page.new.out)
    (g.E.Sink.view c.load.new.err) c.write_page.result (c.write_page.ensures (g.S.Shelf.view c.load.new.shelf) (g.E.Sink.view c.load.new.err))
