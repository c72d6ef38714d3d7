use Rattle.std.proofs.Common.{inl, inr, refl}
use Rattle.job_protocol.specs.declared.status.Status.TheVariants as statuses
use Rattle.job_protocol.proofs.Ends.{written_here}
use Rattle.invoice_jobs.specs.Invoices.{listed, listing_in}
use Rattle.invoice_jobs.proofs.invoices.show.Goals as goal

pub returns-then-print_in : goal.returns-then-print_in
returns-then-print_in g c =
    c.in-Ok.ensures.goes_on (listed c.args.format) (g.S.Shelf.view c.load.new.shelf) (g.O.Sink.view c.args.out.now) (g.O.Sink.view c.print_in.new.out)
    (g.E.Sink.view c.load.new.err) statuses.WriteFault
    (written_here statuses.Done statuses.WriteFault (listing_in c.args.format c.in-Ok.loaded.read.invoice c.in-Ok.loaded.read.passed_over)
    (g.S.Shelf.view c.load.new.shelf)
    (g.O.Sink.view c.args.out.now) (g.O.Sink.view c.print_in.new.out) (g.E.Sink.view c.load.new.err) tt
    (inr (refl, (rw c.if-print_in.true at c.print_in.ensures))))

pub returns : goal.returns
returns g c =
    c.in-Ok.ensures.goes_on (listed c.args.format) (g.S.Shelf.view c.load.new.shelf) (g.O.Sink.view c.args.out.now) (g.O.Sink.view c.print_in.new.out)
    (g.E.Sink.view c.load.new.err) statuses.Done
    (written_here statuses.Done statuses.Done (listing_in c.args.format c.in-Ok.loaded.read.invoice c.in-Ok.loaded.read.passed_over)
    (g.S.Shelf.view c.load.new.shelf)
    (g.O.Sink.view c.args.out.now) (g.O.Sink.view c.print_in.new.out) (g.E.Sink.view c.load.new.err) tt
    (inl (refl, (rw c.if-print_in.false at c.print_in.ensures))))
