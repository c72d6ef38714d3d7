use Rattle.std.proofs.Common.{inl, inr, refl}
use Rattle.invoice_page.specs.Page.{page}
use Rattle.job_protocol.specs.declared.status.Status.TheVariants as statuses
use Rattle.job_protocol.proofs.Ends.{written_here}
use Rattle.invoice_jobs.proofs.pages.write_page.Goals as goal

pub returns-in-Ok-true : goal.returns-in-Ok-true
returns-in-Ok-true g c = λ shelf err.
    written_here statuses.Done statuses.WriteFault (page c.args.read.now.invoice c.args.read.now.passed_over) shelf
    (g.O.Sink.view c.args.out.now) (g.O.Sink.view c.print_page.new.out) err tt
    (inr (refl, (rw c.in-Ok-true.field-0-test at c.in-Ok-true.ensures.ok)))

pub returns-in-Ok-false : goal.returns-in-Ok-false
returns-in-Ok-false g c = λ shelf err.
    written_here statuses.Done statuses.Done (page c.args.read.now.invoice c.args.read.now.passed_over) shelf
    (g.O.Sink.view c.args.out.now) (g.O.Sink.view c.print_page.new.out) err tt
    (inl (refl, (rw c.in-Ok-false.field-0-test at c.in-Ok-false.ensures.ok)))
